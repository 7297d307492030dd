-- A piece of a message, as far as it has come.
use Rattle.std.specs.Prelude.{ℕ, ◌+◌, ◌*◌, ◌-◌, ◌||◌, if◌then◌else◌, Bool, true, false, List, [], ◌∷◌, length, take, drop, slice_index, nat_le}
use Rattle.ndef_format.specs.HeadReasons.{is_set, tnf_number, width}
use Rattle.ndef_format.specs.Records.{tnf_of}
use Rattle.ndef_format.specs.declared.tnf.Tnf.{Tnf}
use Rattle.ndef_format.specs.declared.tnf.Tnf.TheVariants as tnfs
use Rattle.ndef_piece.specs.Come.{id_given, lengths_width, payload_length_come}

-- NDEF 1.0, PAYLOAD_LENGTH: the number that its octets spell, most significant first; 0 where some are missing
abbrev pub spelled : (short : Bool) → List ℕ → ℕ
spelled true (a ∷ []) = a
spelled false (a ∷ b ∷ c ∷ d ∷ []) = 16777216 * a + 65536 * b + 256 * c + d
spelled _ _ = 0

-- NDEF 1.0, PAYLOAD_LENGTH: of a piece that begins with these octets
abbrev pub payload_length : List ℕ → ℕ
payload_length s = spelled (is_set 4 (slice_index s 0)) (payload_length_come s)

-- NDEF 1.0, record layout: the number of octets before TYPE
abbrev pub head_length : List ℕ → ℕ
head_length s = 2 + lengths_width (slice_index s 0)

-- NDEF 1.0, ID_LENGTH: 0 where it is not there, or has not come
abbrev pub id_length : List ℕ → ℕ
id_length s = id_given (slice_index s 0) (drop 2 s)

-- NDEF 1.0, record layout: the number of octets before the payload
abbrev pub before_payload : List ℕ → ℕ
before_payload s = head_length s + slice_index s 1 + id_length s

-- NDEF 1.0, PAYLOAD_LENGTH: all of it has come
abbrev pub is_length_whole : List ℕ → Bool
is_length_whole s = nat_le (2 + width (slice_index s 0)) (length s)

-- NDEF 1.0, record layout: all lengths have come
abbrev pub is_lengths_whole : List ℕ → Bool
is_lengths_whole s = nat_le (head_length s) (length s)

-- NDEF 1.0, TYPE: all of it has come
abbrev pub is_kind_whole : List ℕ → Bool
is_kind_whole s = nat_le (head_length s + slice_index s 1) (length s)

-- NDEF 1.0, PAYLOAD: its octets are those that come next
abbrev pub is_payload_begun : List ℕ → Bool
is_payload_begun s = nat_le (before_payload s) (length s)

-- NDEF 1.0, record layout: the least length of a record that begins with these octets
abbrev pub least_record : List ℕ → ℕ
least_record s = before_payload s + payload_length s

-- NDEF 1.0, TNF: an empty record
abbrev pub is_empty_record : Tnf → Bool
is_empty_record tnfs.Empty = true
is_empty_record tnf = false

-- NDEF 1.0, TNF: a record of this type name format has a type
abbrev pub has_kind : Tnf → Bool
has_kind tnfs.Empty = false
has_kind tnfs.Unknown = false
has_kind tnfs.Unchanged = false
has_kind tnf = true

-- NDEF 1.0, TYPE_LENGTH: the octets of TYPE that a record needs, where its length has not come
abbrev pub kind_to_come : List ℕ → ℕ
kind_to_come (header ∷ []) = if has_kind (tnf_of (tnf_number header)) then 1 else 0
kind_to_come s = 0

-- NDEF 1.0, record layout and TNF: the length of a record with this head is known: all lengths came, or it is empty
abbrev pub is_size_known : List ℕ → Bool
is_size_known s = is_lengths_whole s || is_empty_record (tnf_of (tnf_number (slice_index s 0)))

-- the bytes from the first of the last that came to the refused one, which has that number of bytes before it
abbrev pub through : (bytes : List ℕ) (place : ℕ) (come : List ℕ) → List ℕ
through bytes place come = drop (length (take place bytes) - length come) (take (place + 1) bytes)
