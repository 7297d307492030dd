-- Why an octet is refused in the head of a piece (NFC Forum, NDEF 1.0, record layout).
use Rattle.std.specs.Prelude.{ℕ, ◌/◌, ◌%◌, ◌^◌, Bool, ◌==◌, if◌then◌else◌, true, false, nat_lt, List, [], ◌∷◌, length, ◌+◌, ◌-◌, ◌*◌, not, ◌&&◌, ◌++◌, Option, Some, None}
use Rattle.ndef_format.specs.declared.profile.Profile.{Profile}
use Rattle.ndef_format.specs.declared.profile.Profile.TheVariants.{Strict, Standard}
use Rattle.ndef_format.specs.declared.reason.Reason.{Reason}
use Rattle.ndef_format.specs.declared.reason.Reason.TheVariants.{ReservedTnf, BeginMissing, BeginAgain, UnchangedOutside, ChangedInside, IdInside, ChunkAtEnd, ChunkOfEmpty, TooManyPieces, TooManyRecords, TypeNotEmpty, TypeEmpty, EmptyNotEmpty, PayloadTooLarge}
use Rattle.ndef_format.specs.declared.spot.Spot.{Spot}

-- NDEF 1.0, record layout: a flag, by its bit
abbrev pub is_set : ℕ → ℕ → Bool
is_set k b = b / 2 ^ k % 2 == 1

-- NDEF 1.0, TNF: the number in bits 2 to 0
abbrev pub tnf_number : ℕ → ℕ
tnf_number b = b % 8

-- NDEF 1.0, SR: the number of octets of PAYLOAD_LENGTH
abbrev pub width : ℕ → ℕ
width header = if is_set 4 header then 1 else 4

-- whether the reserved type name format 7 is refused
abbrev pub is_strict : Profile → Bool
is_strict Strict = true
is_strict Standard = false

-- ---- the field of an octet of a head

-- NDEF 1.0, record layout: the fields of a head
pub data HeadField : Type 0 where
  HeaderOctet : HeadField
  TypeLength : HeadField
  PayloadLength : HeadField
  IdLength : HeadField

-- NDEF 1.0, record layout: the field of the octet after these
abbrev pub head_field : List ℕ → HeadField
head_field [] = HeaderOctet
head_field (header ∷ []) = TypeLength
head_field (header ∷ kind ∷ xs) =
    if nat_lt (length xs) (width header) then PayloadLength else IdLength

-- the octet is in the header
abbrev pub in_header : HeadField → Bool
in_header HeaderOctet = true
in_header _ = false

-- the octet is in TYPE_LENGTH
abbrev pub in_type_length : HeadField → Bool
in_type_length TypeLength = true
in_type_length _ = false

-- the octet is in PAYLOAD_LENGTH
abbrev pub in_payload_length : HeadField → Bool
in_payload_length PayloadLength = true
in_payload_length _ = false

-- the header octet of the piece, where b follows these octets
abbrev pub header_of : List ℕ → ℕ → ℕ
header_of [] b = b
header_of (header ∷ xs) b = header

-- ---- the least payload length

-- NDEF 1.0, PAYLOAD_LENGTH: the least number that n octets can spell, most significant first, of
-- which these are the front
abbrev pub least_from : ℕ → List ℕ → ℕ
least_from n [] = 0
least_from n (x ∷ xs) = x * 256 ^ (n - 1) + least_from (n - 1) xs

-- the least payload length that these octets of a head can spell
abbrev pub least : List ℕ → ℕ
least [] = 0
least (header ∷ []) = 0
least (header ∷ kind ∷ xs) = least_from (width header) xs

-- ---- the conditions

-- The conditions on an octet b after the octets xs of a head, each with its reason, by their
-- numbers from 1. A 7 gets to TYPE_LENGTH in Standard alone, and is unknown there.
abbrev pub conditions : Spot → List ℕ → ℕ → List (Reason × Bool)
conditions spot xs b =
    let at = head_field xs in
    let header = header_of xs b in
    let tnf = tnf_number header in
    let begins = is_set 7 header in
    let ends = is_set 6 header in
    let chunked = is_set 5 header in
    let id_there = is_set 3 header in
    (ReservedTnf, in_header at && (is_strict spot.profile && tnf == 7))
    ∷ (BeginMissing, in_header at && (spot.first && not begins))
    ∷ (BeginAgain, in_header at && (not spot.first && begins))
    ∷ (UnchangedOutside, in_header at && (not spot.inside && tnf == 6))
    ∷ (ChangedInside, in_header at && (spot.inside && not (tnf == 6)))
    ∷ (IdInside, in_header at && (spot.inside && id_there))
    ∷ (ChunkAtEnd, in_header at && (chunked && ends))
    ∷ (ChunkOfEmpty, in_header at && (not spot.inside && (chunked && tnf == 0)))
    ∷ (TooManyPieces, in_header at && (chunked && spot.last_piece))
    ∷ (TooManyRecords, in_header at && (not chunked && (not ends && spot.last_record)))
    ∷ (TypeNotEmpty, in_type_length at && (nat_lt 4 tnf && not (b == 0)))
    ∷ (TypeEmpty, in_type_length at && ((nat_lt 0 tnf && nat_lt tnf 5) && b == 0))
    ∷ (EmptyNotEmpty, not (in_header at) && (tnf == 0 && not (b == 0)))
    ∷ (PayloadTooLarge, in_payload_length at && nat_lt spot.room (least (xs ++ b ∷ [])))
    ∷ []

-- the lowest-numbered condition that holds
abbrev pub lowest : List (Reason × Bool) → Option Reason
lowest [] = None
lowest (c ∷ cs) = if c.1 then Some c.0 else lowest cs

-- why an octet after these is refused, or None
abbrev pub reason_for : Spot → List ℕ → ℕ → Option Reason
reason_for spot xs b = lowest (conditions spot xs b)
