use Rattle.std.proofs.Common.{rules, length, ◌∙◌, ap, subst, arith}
use Rattle.ndef_c.specs.Normalizing.{CanBeNormalized, normalized}
use Rattle.ndef_c.proofs.Puts.{counted, gives_puts, no_room, some_of}
use Rattle.ndef_c.proofs.normalizing.ndef_normalize.Goals as goal

pub returns-then-buffer-count-clause-normalized : goal.returns-then-buffer-count-clause-normalized
returns-then-buffer-count-clause-normalized c = λ _.
    let m = c.has_message.ensures.0 c.if-not-has_message.false in
    let form = c.in-Some.ensures.some in
    let l = c.in-Some-put_normalized.ensures in
    let can = l.may m.0 m.1 in
    let fits = can.fits in
    let small = c.if-buffer-count.true in
    let n = counted c.new-counter.ensures.at (l.some m.0 m.1) c.at.ensures (omega (arith, fits)) in
    let size = n ∙ ap (λ x. length (normalized x m.0)) form in
    record {
      may = record { known = c.in-Some.ensures.known; runs = m.0; message = m.1; can = subst (λ x. CanBeNormalized x m.0) form can };
      gives = no_room _ _ _ size (omega (arith, size, small));
    }

pub returns-clause-normalized : goal.returns-clause-normalized
returns-clause-normalized c = λ _.
    let m = c.has_message.ensures.0 c.if-not-has_message.false in
    let form = c.in-Some.ensures.some in
    let l = c.in-Some-put_normalized.ensures in
    let can = l.may m.0 m.1 in
    let fits = can.fits in
    let n = counted c.new-counter.ensures.at (l.some m.0 m.1) c.at.ensures (omega (arith, fits)) in
    let again = c.put_normalized-same.ensures in
    let put = some_of c.put_normalized-same.result again.none (λ none. none m.0 m.1 can) again.some m.0 m.1 in
    record {
      may = record { known = c.in-Some.ensures.known; runs = m.0; message = m.1; can = subst (λ x. CanBeNormalized x m.0) form can };
      gives = gives_puts _ _ _ _ (ap (λ x. normalized x m.0) form) n c.if-buffer-count.false c.new.ensures.at c.new.ensures.buffer (search rules) put;
    }
