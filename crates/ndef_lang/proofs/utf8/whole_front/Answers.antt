use Rattle.std.proofs.Common.{◌≡◌, ◌+◌, ◌-◌, ◌≤◌, take, drop, subst, arith, rules, take-take, length-take}
use Rattle.std.specs.Prelude.{IsUtf8}
use Rattle.ndef_lang.proofs.Utf8Whole.{text_parts}
use Rattle.ndef_lang.proofs.utf8.whole_front.Goals as goal

pub loop-at-preserved : goal.loop-at-preserved
loop-at-preserved c =
    let at = c.loop-at.at in
    let count = c.block_length.result in
    let rest = drop at c.args.bytes.now in
    let e : at + count - at ≡ count = omega arith in
    (search rules, text_parts c.args.bytes.now at count c.loop-at.invariant.1 (subst (λ n. IsUtf8 (take n rest)) e (c.is_utf8.ensures.0 (search rules))))

pub returns-then-not-is_utf8-clause-text : goal.returns-then-not-is_utf8-clause-text
returns-then-not-is_utf8-clause-text c =
    let at = c.loop-at.at in
    let front = c.valid_front-then-not-is_utf8.result in
    let most = at + c.block_length.result - at in
    let rest = drop at c.args.bytes.now in
    let within = c.valid_front-then-not-is_utf8.ensures.within in
    let l : front ≤ most = omega (arith, length-take most rest) in
    text_parts c.args.bytes.now at front c.loop-at.invariant.1 (subst IsUtf8 (take-take front most rest l) c.valid_front-then-not-is_utf8.ensures.text)
