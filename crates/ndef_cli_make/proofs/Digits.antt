-- Hexadecimal digits, and the octets that they denote.
use Rattle.std.proofs.Common.{◌≡◌, ◌∙◌, ◌%◌, ℕ, Bool, true, false, List, Some, None, Result, Ok, Err, length, refl, sym, ap, rules}
use Rattle.std.specs.List.{list_all}
use Rattle.std.specs.Result.{result_ok}
use Rattle.std.proofs.lemmas.List.Sums.{AllPass-from_list_all, list_all-from_AllPass}
use Rattle.hex.specs.Hex.{decode_of, is_hex_digit}
use Rattle.hex.specs.declared.error.FromHexError.{FromHexError}
use Rattle.hex.proofs.HexLemmas.{decode_of-digits, decode_of-ok}

-- what is told is what was given
pub itself : {X : Type 0} (x : X) → x ≡ x
itself x = refl

unequal : true ≡ false → ⊥
unequal h = absurd (search rules)

apart : (b : Bool) → b ≡ true → b ≡ false → ⊥
apart b one other = unequal (sym one ∙ other)

none_of : (r : Result (List ℕ) FromHexError) → ((bytes : List ℕ) → r ≡ Ok bytes → ⊥) → result_ok r ≡ None
none_of (Ok bytes) never = absurd (never bytes refl)
none_of (Err e) never = refl

-- an odd number of digits gives no bytes
pub none_of_odd : (s : List ℕ) → (length s % 2 ≡ 0 → ⊥) → result_ok (decode_of s) ≡ None
none_of_odd s odd = none_of (decode_of s) (λ bytes is. odd (decode_of-ok s bytes is).0)

-- so do others than digits
pub none_of_bad : (s : List ℕ) → list_all is_hex_digit s ≡ false → result_ok (decode_of s) ≡ None
none_of_bad s bad = none_of (decode_of s) (λ bytes is. apart (list_all is_hex_digit s) (list_all-from_AllPass is_hex_digit s (decode_of-ok s bytes is).1) bad)

-- an even number of digits gives some
pub some_of : (s : List ℕ) → length s % 2 ≡ 0 → list_all is_hex_digit s ≡ true → (bytes : List ℕ) × (result_ok (decode_of s) ≡ Some bytes)
some_of s even all = let some = decode_of-digits s even (AllPass-from_list_all is_hex_digit s all) in (some.0, ap result_ok some.1)
