-- The expectation in a head of a smart poster before which no URI has come.
use Rattle.std.specs.Prelude.{ℕ, ◌+◌, ◌-◌, ◌==◌, ◌&&◌, ◌||◌, not, if◌then◌else◌, Bool, List, length, max, nat_le, nat_lt, slice_index}
use Rattle.ndef_format.specs.HeadReasons.{is_set, tnf_number}
use Rattle.ndef_diagnostics.specs.Begun.{head_length, id_length, is_length_whole, is_size_known, least_record, payload_length}
use Rattle.ndef_diagnostics.specs.declared.expected.Expected.{Expected}
use Rattle.ndef_diagnostics.specs.declared.expected.Expected.TheVariants as expected
use Rattle.ndef_diagnostics.specs.declared.expected.Whose.TheVariants as whose

-- NDEF 1.0, PAYLOAD_LENGTH: it has come, and is 0
abbrev pub has_no_payload : List ℕ → Bool
has_no_payload s = is_length_whole s && (payload_length s == 0)

-- RTD URI 1.0, URI record: a record with this head may be one: its type has one octet, and its payload one or more
abbrev pub may_be_uri : List ℕ → Bool
may_be_uri s =
    (tnf_number (slice_index s 0) == 1) && (nat_lt (length s) 2 || (slice_index s 1 == 1)) && not (has_no_payload s)

-- RTD URI 1.0, URI record: the least length of one with this head
abbrev pub least_uri : List ℕ → ℕ
least_uri s = head_length s + 1 + id_length s + max 1 (payload_length s)

-- NDEF 1.0, PAYLOAD_LENGTH: none of its octets has come, or all have
abbrev pub is_uncut : List ℕ → Bool
is_uncut s = nat_le (length s) 2 || is_length_whole s

-- RTD Smart Poster 1.0, URI record: the last record of a poster has to be its URI, which has a payload
abbrev pub of_last_uri : (left : ℕ) → List ℕ → Expected
of_last_uri left s =
    if has_no_payload s then expected.EmptyUri
    else (if nat_lt left (least_uri s) && is_uncut s
    then expected.Size whose.LastUri (least_uri s) left else expected.Nothing)

-- RTD Smart Poster 1.0, URI record: after a record of this size that isn't the URI of a poster comes one that is
abbrev pub of_rest : (left size : ℕ) → Expected
of_rest left size = if nat_lt (left - size) 5 then expected.Size whose.NextUri 5 (left - size) else expected.Nothing

-- the same, after a head
abbrev pub before_uri : (left : ℕ) → List ℕ → Expected
before_uri left s = if is_size_known s && not (may_be_uri s) then of_rest left (least_record s) else expected.Nothing

-- RTD Smart Poster 1.0, URI record: a poster has one
abbrev pub of_uri : (left : ℕ) → List ℕ → Expected
of_uri left s = if is_set 6 (slice_index s 0) then of_last_uri left s else before_uri left s
