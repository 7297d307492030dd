use Rattle.std.proofs.Common.{◌≡◌, ◌<◌, ◌≤◌, true, false, length, slice_index, rules, subst}
use Rattle.std.specs.List.{AllPass}
use Rattle.std.proofs.lemmas.List.{take_all}
use Rattle.std.proofs.lemmas.List.Elements.{All-more}
use Rattle.hex.specs.Hex.{is_hex_digit}
use Rattle.ndef_tool.proofs.Digits.{first_bad, some_decoded}
use Rattle.ndef_tool.proofs.hexadecimal.without_memory.Goals as goal

pub returns-then-not-is_ascii_hexdigit : goal.returns-then-not-is_ascii_hexdigit
returns-then-not-is_ascii_hexdigit c =
    let s = c.args.digits.now in
    let place = c.loop-place.place in
    let within : place < length s = search rules in
    let bad : is_hex_digit (slice_index s place) ≡ false = search rules in
    first_bad s place c.requires.even within c.loop-place.invariant bad

pub loop-place-preserved : goal.loop-place-preserved
loop-place-preserved c =
    let s = c.args.digits.now in
    let place = c.loop-place.place in
    let within : place < length s = search rules in
    let good : is_hex_digit (slice_index s place) ≡ true = search rules in
    All-more (λ x. is_hex_digit x ≡ true) s place 0 within c.loop-place.invariant good

pub returns : goal.returns
returns c =
    let s = c.args.digits.now in
    let past : length s ≤ c.loop-place.place = search rules in
    some_decoded s c.requires.some c.requires.even (subst (AllPass is_hex_digit) (take_all c.loop-place.place s past) c.loop-place.invariant)
