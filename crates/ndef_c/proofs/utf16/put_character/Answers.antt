use Rattle.std.proofs.Common.{◌<◌, ◌++◌, [], refl, false, get_or, length, take, ◌∙◌, ap, subst, arith}
use Rattle.std.specs.Char.Escape.{encode_utf16}
use Rattle.ndef_format.specs.Texts.{spelled}
use Rattle.ndef_types.specs.UnitLaws.{spelled_more, small_units}
use Rattle.ndef_c.specs.Buffers.{Puts}
use Rattle.ndef_c.proofs.Puts.{puts_on}
use Rattle.ndef_c.proofs.utf16.put_character.Goals as goal

pub loop-unit-preserved : goal.loop-unit-preserved
loop-unit-preserved c =
    let i = c.loop-unit.unit-index in
    let us = encode_utf16 c.args.c in
    let e = c.encode_utf16.ensures.value in
    let n = ap length e in
    let test = c.loop-unit-test.true in
    let l : i < length us = omega (arith, n, test) in
    let before = spelled false (take i us) in
    let more = ap (λ x. before ++ x) c.to_be_bytes.ensures
    ∙ spelled_more us (get_or c.encode_utf16.result.now i 0) i [] before l (ap (λ s. get_or s i 0) e) (rw e (small_units c.args.c c.ranges.c.1.1 i)) refl in
    subst (λ x. Puts c.args.out.now x c.put.new.self) more (puts_on c.loop-unit.invariant c.put.ensures)
