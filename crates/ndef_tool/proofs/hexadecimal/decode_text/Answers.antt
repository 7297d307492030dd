use Rattle.std.proofs.Common.{◌≡◌, length, Ok, rules, subst}
use Rattle.hex.specs.Hex.{decode_of}
use Rattle.ndef_tool.proofs.Digits.{none_decoded}
use Rattle.ndef_tool.proofs.hexadecimal.decode_text.Goals as goal

pub returns-then-is_empty : goal.returns-then-is_empty
returns-then-is_empty c =
    let text = c.drop_spaces.new.text.items in
    let none : length text ≡ 0 = search rules in
    subst (λ s. decode_of s ≡ Ok text) c.drop_spaces.ensures (none_decoded text none)
