-- The lengths of the heads that go on after some octets.
use Rattle.std.specs.Prelude.{◌≡◌, ℕ, ◌+◌, ◌-◌, ◌≤◌, ◌==◌, Bool, not, ◌&&◌, nat_lt, List, [], ◌∷◌, length, unwrap_or, Option, Some, None, if◌then◌else◌}
use Rattle.ndef_format.specs.Records.{HeadFields, tnf_of}
use Rattle.ndef_piece.specs.declared.head.Head.{Head}
use Rattle.ndef_format.specs.declared.spot.Spot.{Spot}
use Rattle.ndef_piece.specs.declared.bounds.Bounds.{Bounds}
use Rattle.ndef_piece.specs.Heads.{BeginsHead, IsWholeHead}
use Rattle.ndef_format.specs.Positions.{IsOpen}
use Rattle.ndef_format.specs.HeadReasons.{is_set, tnf_number}
use Rattle.ndef_piece.specs.Header.{size}
use Rattle.ndef_piece.specs.Ranges.{range_of}

-- a number from the least to the greatest
abbrev pub IsIn : ℕ → ℕ × ℕ → Type 0
IsIn n range = (range.0 ≤ n) × (n ≤ range.1)

-- the fields have these flags, and lengths in these ranges, and `count` of their octets are still
-- to come
pub record AreWithin (f : HeadFields) (count : ℕ) (b : Bounds) : Type 0 where
  pub left : count ≡ b.left
  pub last : f.last ≡ b.last
  pub chunked : f.chunked ≡ b.chunked
  pub tnf : tnf_of f.tnf ≡ b.tnf
  pub kind : IsIn f.kind_length b.kind
  pub id : IsIn (unwrap_or f.id_length 0) b.id
  pub payload : IsIn f.payload_length b.payload

-- The heads that may occur at the spot and continue these octets lie within the bounds,
-- and for any lengths within them some such head has all of these.
pub record AreBounds (spot : Spot) (xs : List ℕ) (b : Bounds) : Type 0 where
  pub sound : (f : HeadFields) (begun : BeginsHead spot xs f) → AreWithin f (length begun.rest) b
  pub full : (kind id payload : ℕ) → IsIn kind b.kind → IsIn id b.id → IsIn payload b.payload
      → (f : HeadFields) × BeginsHead spot xs f × (f.kind_length ≡ kind)
      × (unwrap_or f.id_length 0 ≡ id)
      × (f.payload_length ≡ payload)

-- NDEF 1.0, TYPE_LENGTH: the type lengths of a type name format, given these octets after the
-- header octet
abbrev pub kind_range : ℕ → List ℕ → ℕ × ℕ
kind_range tnf [] = if nat_lt 0 tnf && nat_lt tnf 5 then (1, 255) else (0, 0)
kind_range tnf (kind ∷ xs) = (kind, kind)

-- NDEF 1.0, ID_LENGTH: the id lengths, before ID_LENGTH
abbrev pub id_range : ℕ → Bool → ℕ × ℕ
id_range tnf id_there = if id_there && not (tnf == 0) then (0, 255) else (0, 0)

-- the bounds after an open front
abbrev pub bounds_of : Spot → ℕ → List ℕ → Bounds
bounds_of spot header xs = record {
  last = is_set 6 header;
  chunked = is_set 5 header;
  tnf = tnf_of (tnf_number header);
  left = size header - (1 + length xs);
  kind = kind_range (tnf_number header) xs;
  id = id_range (tnf_number header) (is_set 3 header);
  payload = range_of spot (header ∷ xs);
}

-- the bounds after the octets of an open front, if any are there
abbrev pub front_bounds : Spot → List ℕ → Option Bounds
front_bounds spot [] = None
front_bounds spot (header ∷ xs) = Some (bounds_of spot header xs)

-- the bounds after a whole head
abbrev pub bounds_at : Head → Bounds
bounds_at h = record {
  last = h.last;
  chunked = h.chunked;
  tnf = h.tnf;
  left = 0;
  kind = (h.kind_length, h.kind_length);
  id = (unwrap_or h.id_length 0, unwrap_or h.id_length 0);
  payload = (h.payload_length, h.payload_length);
}

-- ---- laws

-- The bounds after some octets are those of the heads that go on with them.
abbrev pub BoundsOfFronts : Type 0
BoundsOfFronts = (spot : Spot) (header : ℕ) (xs : List ℕ) → IsOpen spot (header ∷ xs)
    → AreBounds spot (header ∷ xs) (bounds_of spot header xs)

-- The bounds of a whole head are its lengths.
abbrev pub BoundsOfHeads : Type 0
BoundsOfHeads =
    (spot : Spot) (xs : List ℕ) (h : Head) → IsWholeHead spot xs h → AreBounds spot xs (bounds_at h)
