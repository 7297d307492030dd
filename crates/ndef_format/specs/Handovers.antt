-- The payloads of alternative carriers, errors and carriers (Connection Handover 1.2).
use Rattle.std.specs.Prelude.{ℕ, zero, suc, List, [], ◌∷◌, ◌≡◌, length}
use Rattle.ndef_format.specs.Records.{AreOctets}
use Rattle.ndef_format.specs.Octets.{Counted, IsOctet, Octets}

-- n references, each after its length, and then any octets
abbrev pub AreReferences : ℕ → List ℕ → Type 0
AreReferences zero = AreOctets
AreReferences (suc n) = Counted (AreReferences n)

-- Connection Handover 1.2, Alternative Carrier record: a count of auxiliary references, and that
-- many of them
abbrev pub AreAuxiliary : List ℕ → Type 0
AreAuxiliary [] = ⊥
AreAuxiliary (n ∷ s) = IsOctet n × AreReferences n s

-- Connection Handover 1.2, Alternative Carrier record: a power state, a reference after its length,
-- and auxiliary references
abbrev pub IsAlternative : List ℕ → Type 0
IsAlternative = Octets IsOctet 1 (Counted AreAuxiliary)

-- Connection Handover 1.2, Error record: the data of a reason; of an unknown reason any octets
abbrev pub IsErrorData : (reason : ℕ) → List ℕ → Type 0
IsErrorData reason s =
    AreOctets s × (reason ≡ 1 → length s ≡ 1) × (reason ≡ 2 → length s ≡ 4)
    × (reason ≡ 3 → length s ≡ 1)

-- Connection Handover 1.2, Error record: a reason and its data
abbrev pub IsError : List ℕ → Type 0
IsError [] = ⊥
IsError (reason ∷ s) = IsOctet reason × IsErrorData reason s

-- Connection Handover 1.2, Handover Carrier record: a format, a type after its length, and any
-- octets
abbrev pub IsCarrier : List ℕ → Type 0
IsCarrier = Octets IsOctet 1 (Counted AreOctets)
