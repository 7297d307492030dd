-- The result for the payload of an alternative carrier.
use Rattle.std.specs.Prelude.{◌≡◌, ◌==◌, ℕ, ◌+◌, ◌^◌, ◌<◌, ◌≤◌, List, ◌∷◌, length, take, slice_get, sum_by, Some, if◌then◌else◌}
use Rattle.ndef_format.specs.Handovers.{IsAlternative}
use Rattle.ndef_types.specs.Values.{AcValue, StandsForAc, power_code}
use Rattle.ndef_c.specs.Arrays.{EachAt, GivesMany}
use Rattle.ndef_c.specs.Walks.{Lies}
use Rattle.ndef_c.specs.declared.alternative.NdefAlternative.{NdefAlternative}
use Rattle.ndef_c.specs.declared.part.NdefPart.{NdefPart}

-- Connection Handover 1.2, Alternative Carrier record: the carrier data reference, and the
-- auxiliary ones
abbrev pub references : AcValue → List (List ℕ)
references v = v.reference ∷ v.auxiliary

-- Connection Handover 1.2, Alternative Carrier record: the payload is that of an alternative
-- carrier: its power state, and its number of references
pub record IsAlternativeAt (payload : List ℕ) (out : NdefAlternative) : Type 0 where
  pub in_set : IsAlternative payload
  pub short : length payload < 2 ^ 32
  pub alternative : AcValue
  pub stands : StandsForAc payload alternative
  pub power : out.power ≡ power_code alternative.power
  pub references_are : out.references ≡ length (references alternative)

-- Connection Handover 1.2, Alternative Carrier record: where the reference with the index begins:
-- after the power state, its length, the references in front of it with theirs, and, but for the
-- first, the number of the others
abbrev pub reference_place : List (List ℕ) → ℕ → ℕ
reference_place names index =
    (if index == 0 then 2 else 3) + sum_by (λ name. 1 + length name) (take index names)

-- the name with the index lies there
abbrev pub LiesAt : List ℕ → List (List ℕ) → ℕ → NdefPart → Type 0
LiesAt payload names index part = (name : List ℕ) × (slice_get names index ≡ Some name)
    × Lies payload part.at part.length name

-- Connection Handover 1.2, Alternative Carrier record: the reference with the index lies there
pub record IsReferencePart (payload : List ℕ) (v : AcValue) (index : ℕ) (part : NdefPart) : Type 0 where
  pub lies : LiesAt payload (references v) index part
  pub place : part.at ≡ reference_place (references v) index

-- Connection Handover 1.2, Alternative Carrier record: the payload is that of an alternative
-- carrier, and where the reference with the index lies
pub record IsReferenceAt (payload : List ℕ) (index : ℕ) (out : NdefPart) : Type 0 where
  pub in_set : IsAlternative payload
  pub short : length payload < 2 ^ 32
  pub alternative : AcValue
  pub stands : StandsForAc payload alternative
  pub is : IsReferencePart payload alternative index out

-- Connection Handover 1.2, Alternative Carrier record: the payload is that of an alternative
-- carrier with no such reference
pub record HasNoReference (payload : List ℕ) (index : ℕ) : Type 0 where
  pub in_set : IsAlternative payload
  pub short : length payload < 2 ^ 32
  pub alternative : AcValue
  pub stands : StandsForAc payload alternative
  pub beyond : length (references alternative) ≤ index

-- Connection Handover 1.2, Alternative Carrier record: where each reference of an alternative
-- carrier lies is given
pub record GivesReferences (payload : List ℕ) (before after : List NdefPart) (count status : ℕ) : Type 0 where
  pub in_set : IsAlternative payload
  pub short : length payload < 2 ^ 32
  pub alternative : AcValue
  pub stands : StandsForAc payload alternative
  pub gives : GivesMany (EachAt (IsReferencePart payload alternative) 0) (length (references alternative))
      before after count status
