-- The record in which bytes are refused: how many end before it, and where it ends.
use Rattle.std.specs.Prelude.{◌≡◌, ℕ, ◌+◌, ◌-◌, ◌==◌, ◌&&◌, ◌||◌, not, Bool, Option, Some, None, List, length, take, slice_index, nat_le, if◌then◌else◌}
use Rattle.ndef_format.specs.HeadReasons.{is_set, tnf_number}
use Rattle.ndef_format.specs.declared.refusal.Refusal.{Refusal}
use Rattle.ndef_fields.specs.Refusals.{AreWholeBefore}
use Rattle.ndef_diagnostics.specs.Begun.{is_lengths_whole, least_record}
use Rattle.ndef_diagnostics.specs.Wholes.{records_ended}
use Rattle.ndef_cli_explain.specs.declared.refused_record.RefusedRecord.{RefusedRecord}

-- NDEF 1.0, messages: this number of records end in these bytes
abbrev pub EndRecords : (bytes : List ℕ) → (count : ℕ) → Type 0
EndRecords bytes count = (come : List ℕ) × (whole : AreWholeBefore bytes come) × (count ≡ records_ended whole.pieces)

-- NDEF 1.0, CF and TNF 6: a piece that begins with these octets has one of several chunks of a payload
abbrev pub is_chunk : List ℕ → Bool
is_chunk s = is_set 5 (slice_index s 0) || (tnf_number (slice_index s 0) == 6)

-- NDEF 1.0, record layout: the end of a record whose lengths have come, where its payload has one piece and it lies
-- within `size` bytes; these octets of it have come before the byte `at`
abbrev pub end_within : (size at : ℕ) → (come : List ℕ) → Option ℕ
end_within size at come =
    let end = at - length come + least_record come in
    if is_lengths_whole come && not (is_chunk come) && nat_le end size then Some end else None

-- NDEF 1.0, messages: the record in which these bytes are refused: the number of those that end before it, whether it
-- is the last of its message, and where it ends
abbrev pub IsRefusedRecord : (bytes : List ℕ) → Refusal → RefusedRecord → Type 0
IsRefusedRecord bytes refusal found =
    (come : List ℕ) × (whole : AreWholeBefore (take refusal.at bytes) come)
    × (found.before ≡ records_ended whole.pieces) × (found.last ≡ is_set 6 (slice_index come 0))
    × (found.end ≡ end_within (length bytes) refusal.at come)
