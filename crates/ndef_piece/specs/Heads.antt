-- The octets that are the head of a piece that may occur at a spot.
use Rattle.std.specs.Prelude.{◌≡◌, ℕ, ◌+◌, ◌≤◌, List, ◌∷◌, ◌++◌, length, is_some, ◌↔◌, if◌then◌else◌}
use Rattle.ndef_format.specs.Records.{HeadFields, octets, code, tnf_of}
use Rattle.ndef_piece.specs.declared.head.Head.{Head}
use Rattle.ndef_format.specs.declared.spot.Spot.{Spot}
use Rattle.ndef_format.specs.HeadReasons.{tnf_number}
use Rattle.ndef_format.specs.Positions.{CanBeSpelled, MayOccur}

-- NDEF 1.0, TNF: the head that a reader makes of the fields; 7 is read as Unknown
abbrev pub head : HeadFields → Head
head f = record {
  first = f.first;
  last = f.last;
  chunked = f.chunked;
  short = f.short;
  tnf = tnf_of f.tnf;
  kind_length = f.kind_length;
  payload_length = f.payload_length;
  id_length = f.id_length;
}

-- NDEF 1.0, TNF: the fields that a head is written as; never 7
abbrev pub written_fields : Head → HeadFields
written_fields h = record {
  first = h.first;
  last = h.last;
  chunked = h.chunked;
  short = h.short;
  tnf = code h.tnf;
  kind_length = h.kind_length;
  payload_length = h.payload_length;
  id_length = h.id_length;
}

-- the octets begin the octets of these fields, which may occur at the spot
pub record BeginsHead (spot : Spot) (xs : List ℕ) (f : HeadFields) : Type 0 where
  pub stands : MayOccur spot f
  pub rest : List ℕ
  pub spelled : octets f ≡ xs ++ rest

-- some head that may occur at the spot begins with these octets
abbrev pub IsViableHead : Spot → List ℕ → Type 0
IsViableHead spot xs = (f : HeadFields) × BeginsHead spot xs f

-- the payload length of some head that may occur at the spot and begins with these octets
abbrev pub IsLength : Spot → List ℕ → ℕ → Type 0
IsLength spot xs n = (f : HeadFields) × BeginsHead spot xs f × (f.payload_length ≡ n)

-- the octets are a head that may occur at the spot, and it is read as h
pub record IsWholeHead (spot : Spot) (xs : List ℕ) (h : Head) : Type 0 where
  pub fields : HeadFields
  pub stands : MayOccur spot fields
  pub spelled : octets fields ≡ xs
  pub read : head fields ≡ h

-- the payload lengths of the heads that go on after these octets are the numbers of the range
abbrev pub IsRange : Spot → List ℕ → ℕ × ℕ → Type 0
IsRange spot xs range = (n : ℕ) → IsLength spot xs n ↔ ((range.0 ≤ n) × (n ≤ range.1))

-- ---- laws

-- No head's octets begin those of another, and heads with the same octets are the same.
abbrev pub HeadsAreUnambiguous : Type 0
HeadsAreUnambiguous =
    (f g : HeadFields) (x y : List ℕ) → CanBeSpelled f → CanBeSpelled g → octets f ++ x ≡ octets g
    ++ y
    → (f ≡ g) × (x ≡ y)

-- A head has 3 to 7 octets, as SR and IL say.
abbrev pub HeadsHaveSizes : Type 0
HeadsHaveSizes = (f : HeadFields) → CanBeSpelled f
    → length (octets f) ≡ 2 + (if f.short then 1 else 4) + (if is_some f.id_length then 1 else 0)

-- A header octet gives the type name format of its head.
abbrev pub HeadersTell : Type 0
HeadersTell =
    (f : HeadFields) (header : ℕ) (rest : List ℕ) → CanBeSpelled f → octets f ≡ header ∷ rest
    → tnf_number header ≡ f.tnf
