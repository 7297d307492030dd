-- Fields of a payload: a fixed number of octets, or octets after their length (RTD 1.0 and
-- Connection Handover 1.2).
use Rattle.std.specs.Prelude.{ℕ, ◌<◌, zero, suc, List, [], ◌∷◌, ◌≡◌, length}
use Rattle.ndef_format.specs.Records.{AreOctets}

-- a number of 8 bits
abbrev pub IsOctet : ℕ → Type 0
IsOctet b = b < 256

-- n octets that pass, and then a list that is in the set
abbrev pub Octets : (ℕ → Type 0) → ℕ → (List ℕ → Type 0) → List ℕ → Type 0
Octets passes zero set r = set r
Octets passes (suc n) set [] = ⊥
Octets passes (suc n) set (b ∷ r) = passes b × Octets passes n set r

-- a length octet, that many octets, and then a list that is in the set
abbrev pub Counted : (List ℕ → Type 0) → List ℕ → Type 0
Counted set [] = ⊥
Counted set (n ∷ s) = IsOctet n × Octets IsOctet n set s

-- n octets
abbrev pub AreOctetsOf : ℕ → List ℕ → Type 0
AreOctetsOf n s = AreOctets s × (length s ≡ n)
