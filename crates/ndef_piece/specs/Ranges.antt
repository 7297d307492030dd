-- The payload lengths that an open front of a head leaves, computed from its octets.
use Rattle.std.specs.Prelude.{ℕ, ◌+◌, ◌-◌, ◌*◌, ◌^◌, ◌==◌, List, [], ◌∷◌, take, min, if◌then◌else◌}
use Rattle.ndef_format.specs.declared.spot.Spot.{Spot}
use Rattle.ndef_format.specs.HeadReasons.{tnf_number, width, least_from}

-- NDEF 1.0, PAYLOAD_LENGTH: the greatest number that n octets can spell, most significant first, of
-- which these are the front
abbrev pub greatest_from : ℕ → List ℕ → ℕ
greatest_from n [] = 256 ^ n - 1
greatest_from n (x ∷ xs) = x * 256 ^ (n - 1) + greatest_from (n - 1) xs

-- NDEF 1.0, record layout: the octets of PAYLOAD_LENGTH among these of a head
abbrev pub length_front : List ℕ → List ℕ
length_front [] = []
length_front (header ∷ []) = []
length_front (header ∷ kind ∷ xs) = take (width header) xs

-- the least and the greatest payload length of the heads that go on after these octets
abbrev pub range_of : Spot → List ℕ → ℕ × ℕ
range_of spot [] = (0, spot.room)
range_of spot (header ∷ xs) =
    if tnf_number header == 0 then (0, 0)
    else (
      least_from (width header) (length_front (header ∷ xs)),
      min (greatest_from (width header) (length_front (header ∷ xs))) spot.room,
    )
