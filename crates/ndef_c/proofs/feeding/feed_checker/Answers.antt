use Rattle.std.proofs.Common.{subst, ◌++◌}
use Rattle.ndef_c.specs.Checks.{limits_of}
use Rattle.ndef_c.specs.Feeding.{HasLooked}
use Rattle.ndef_c.proofs.Feeds.{answers_typed, answers_opaque}
use Rattle.ndef_c.proofs.feeding.feed_checker.Goals as goal

pub returns-in-Typed : goal.returns-in-Typed
returns-in-Typed c = λ limits front h.
    let t = subst (λ k. HasLooked k limits front) c.in-Typed.is h in
    let x = c.feed.ensures (limits_of limits) front t.2 in
    ((t.0, t.1, x.0), answers_typed limits (front ++ c.args.bytes.now) c.feed.result c.args.out.now c.feed.new.out t.0 t.1 x.1)

pub returns-in-Opaque : goal.returns-in-Opaque
returns-in-Opaque c = λ limits front h.
    let t = subst (λ k. HasLooked k limits front) c.in-Opaque.is h in
    let x = c.feed-in-Opaque.ensures (limits_of limits) front t.2 in
    ((t.0, t.1, x.0), answers_opaque limits (front ++ c.args.bytes.now) c.feed-in-Opaque.result c.args.out.now c.feed-in-Opaque.new.out t.0 t.1 x.1)
