use Rattle.std.proofs.Common.{◌<◌, ◌∙◌, ap, length, take, arith}
use Rattle.std.proofs.lemmas.List.{length-take-le}
use Rattle.ndef_message.specs.Machine.State.{numbers}
use Rattle.ndef_message.proofs.Accepting.{between, reaches_after, none_taken, records_come}
use Rattle.ndef_message.proofs.state.State.take_records.Goals as goal

pub returns-then-not-is_fresh-clause-onward : goal.returns-then-not-is_fresh-clause-onward
returns-then-not-is_fresh-clause-onward g c = none_taken _

pub returns-then-taken-gt0-clause-onward : goal.returns-then-taken-gt0-clause-onward
returns-then-taken-gt0-clause-onward g c front given point s =
    let laws = c.format_laws.ensures in
    let found = c.accepted_records-taken in
    let a = between g.L.RecordLanguage c.args.limits.now c.args.self.now front given point (c.is_fresh.ensures c.if-not-is_fresh.false) s in
    let x = found.ensures.records.comes a.c a.place_is a.none a.over in
    let some : 0 < length (take found.result.0 c.args.bytes.now) = omega (arith, length-take-le found.result.0 c.args.bytes.now found.ensures.records.within) in
    let w = reaches_after laws.laws laws.range g.met.L.RecordLanguage.others a.at a.viable found.result.2 (records_come x some) c.advance_past.new.self (x.place_is ∙ ap numbers (x.some some)) c.advance_past.ensures in
    (_, w.0, w.2)
