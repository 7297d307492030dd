-- Prefixes of URIs, and the values of payloads with them.
use Rattle.std.proofs.Common.{◌≡◌, ℕ, zero, suc, ◌<◌, ◌≤◌, Bool, true, List, [], ◌∷◌, ◌++◌, length, get_or, refl, ◌∙◌, ap₂, arith}
use Rattle.std.specs.Prelude.{◌&&◌, nat_lt}
use Rattle.std.proofs.lemmas.Bool.{and_parts, ltb-true}
use Rattle.ndef_value.specs.SliceLaws.{rest_from, after_drop}
use Rattle.ndef_types.specs.Values.{StandsForUri}
use Rattle.ndef_types.specs.Prefixes.{prefixes, prefix_of}

all_short : List (List ℕ) → Bool
all_short [] = true
all_short (p ∷ ps) = nat_lt (length p) 64 && all_short ps

prefixes_short : all_short prefixes ≡ true
unfolding all_short
prefixes_short = refl

short_at : (ps : List (List ℕ)) (k : ℕ) → all_short ps ≡ true → length (get_or ps k []) < 64
unfolding all_short
short_at [] k e = omega arith
short_at (p ∷ ps) zero e = ltb-true (length p) 64 (and_parts (nat_lt (length p) 64) (all_short ps) e).0
short_at (p ∷ ps) (suc k) e = short_at ps k (and_parts (nat_lt (length p) 64) (all_short ps) e).1

pub short_prefix : (code : ℕ) → length (prefix_of code) < 64
unfolding prefix_of
short_prefix code = short_at prefixes code prefixes_short

-- a code and the rest of a URI stand for it
pub stands_for : (payload front rest : List ℕ) → 1 ≤ length payload → front ≡ prefix_of (get_or payload 0 0) → rest ≡ rest_from 1 payload → StandsForUri payload (front ++ rest)
stands_for [] front rest h e f = absurd (omega (arith, h))
stands_for (x ∷ s) front rest h e f = ap₂ (λ a b. a ++ b) e (f ∙ after_drop 1 (x ∷ s))
