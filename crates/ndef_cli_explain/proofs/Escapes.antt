-- Bytes in the form that they have in a JSON string.
use Rattle.std.proofs.Common.{◌≡◌, ◌<◌, ◌≤◌, ℕ, ◌/◌, ◌%◌, [], ◌∷◌, refl, lt-ltb, le-ltb}
use native.Mathlib.Omega.{arith}
use Rattle.std.specs.Char.{digit_char}
use Rattle.json.specs.Print.{escape_byte, escape_letter}
use Rattle.json.specs.Run.{is_plain}
use Rattle.ndef_cli.specs.PlainRunLaws.{PlainStays}

pub escaped_by_letter : (x : ℕ) → 0 < escape_letter x → escape_byte x ≡ 92 ∷ escape_letter x ∷ []
unfolding escape_byte
escaped_by_letter x h = rw (lt-ltb 0 (escape_letter x) h) refl

pub escaped_by_digits : (x : ℕ) → escape_letter x ≤ 0 → x < 32
    → escape_byte x ≡ 92 ∷ 117 ∷ 48 ∷ 48 ∷ digit_char (x / 16) ∷ digit_char (x % 16) ∷ []
unfolding escape_byte
escaped_by_digits x h l = rw (le-ltb 0 (escape_letter x) h, lt-ltb x 32 l) refl

pub not_escaped : (x : ℕ) → escape_letter x ≤ 0 → 32 ≤ x → escape_byte x ≡ x ∷ []
unfolding escape_byte
not_escaped x h l = rw (le-ltb 0 (escape_letter x) h, le-ltb x 32 l) refl

pub plain_stays : PlainStays is_plain escape_byte
plain_stays b h = not_escaped b (grind arith) (grind arith)
