use Rattle.std.proofs.Common.{◌≡◌, length, ap, subst, arith}
use Rattle.ndef_value.specs.SliceLaws.{each_octet}
use Rattle.ndef_c.specs.Buffers.{Gives}
use Rattle.ndef_c.proofs.Counted.{alternative_short, gives_alternative}
use Rattle.ndef_c.proofs.alternative_writing.ndef_write_alternative.Goals as goal

pub returns : goal.returns
returns c =
    let a = c.args in
    let g = c.give_content.ensures in
    let x = c.alternatives_are_exact.ensures in
    let n = ap length c.in-Some.ensures.payload in
    let may = c.in-Some.ensures.may in
    let short = alternative_short a.power a.bytes.now a.parts.now may in
    let good : ¬ (c.give_content.result ≡ 3) = λ e. let long = g.bad.0 e in omega (arith, n, short, long) in
    record {
      bad = (λ e. absurd (good e), λ f. absurd (f may));
      kept = g.kept;
      payload = λ may. gives_alternative x.exact x.written a.power a.bytes.now a.parts.now (each_octet a.bytes.now c.type_inv.bytes) may _ _ _ _
          (subst (λ t. Gives t a.buffer.now c.give_content.new.buffer c.give_content.new.count c.give_content.result) c.in-Some.ensures.payload (g.payload good));
    }
