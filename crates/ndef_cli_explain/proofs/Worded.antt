-- Octets between quotation marks.
use Rattle.std.proofs.Common.{◌≡◌, ℕ, Bool, true, false, List, ap, cond, refl}
use Rattle.std.specs.Prelude.{IsUtf8}
use Rattle.std.specs.Str.{is_utf8}
use Rattle.std.proofs.lemmas.Bool.{false_from_ne_true}
use Rattle.std.proofs.lemmas.Str.{IsUtf8-from_is_utf8, is_utf8-from_IsUtf8}
use Rattle.ndef_cli.specs.Quoting.{quoted}
use Rattle.ndef_cli_explain.specs.Wordings.{worded, worded_utf8}

-- octets that are UTF-8
pub worded_text : (utf8 : Bool) (octets : List ℕ) → utf8 ≡ true → IsUtf8 octets → worded utf8 octets ≡ worded_utf8 octets
worded_text false octets e h = absurd (cc)
worded_text true octets e h = ap (λ b. cond b (worded_utf8 octets) (quoted octets)) (is_utf8-from_IsUtf8 octets h)

-- octets that aren't
pub worded_bytes : (utf8 : Bool) (octets : List ℕ) → ¬ IsUtf8 octets → worded utf8 octets ≡ quoted octets
worded_bytes false octets h = refl
worded_bytes true octets h =
    ap (λ b. cond b (worded_utf8 octets) (quoted octets)) (false_from_ne_true (is_utf8 octets) (λ y. h (IsUtf8-from_is_utf8 octets y)))
