-- The expectation at a refusal, from the bytes up to the refused one.
use Rattle.std.specs.Prelude.{◌≡◌, ℕ, ◌+◌, ◌-◌, ◌==◌, ◌&&◌, ◌||◌, not, if◌then◌else◌, Bool, true, false, Option, Some, None, List, [], ◌∷◌, length, take, drop, slice_index, nat_le, nat_lt}
use Rattle.ndef_format.specs.HeadReasons.{is_set, width}
use Rattle.ndef_format.specs.Kinds.{outer_kind}
use Rattle.ndef_format.specs.Nested.{is_table, kind_in, table_in}
use Rattle.ndef_format.specs.declared.kind.Kind.{Kind}
use Rattle.ndef_format.specs.declared.reason.Reason.{Reason}
use Rattle.ndef_format.specs.declared.reason.Reason.TheVariants as reasons
use Rattle.ndef_format.specs.declared.refusal.Refusal.{Refusal}
use Rattle.ndef_format.specs.declared.table.Table.{Table}
use Rattle.ndef_format.specs.declared.table.Table.TheVariants as tables
use Rattle.ndef_piece.specs.Come.{content_come, kind_come}
use Rattle.ndef_piece.specs.Steps.{version_length}
use Rattle.ndef_fields.specs.Fronts.{kind_begun, tnf_come}
use Rattle.ndef_fields.specs.Refusals.{AreWholeBefore}
use Rattle.ndef_fields.specs.declared.name.FieldName.TheVariants as names
use Rattle.ndef_diagnostics.specs.Begun.{before_payload, head_length, id_length, is_kind_whole, is_length_whole, is_lengths_whole, is_payload_begun, is_size_known, kind_to_come, least_record, payload_length, through}
use Rattle.ndef_diagnostics.specs.PosterHeads.{of_uri}
use Rattle.ndef_diagnostics.specs.LengthMismatches.{least_nest, length_mismatch, of_least}
use Rattle.ndef_diagnostics.specs.Wholes.{ends_in_chunk}
use Rattle.ndef_diagnostics.specs.declared.expected.Expected.{Expected}
use Rattle.ndef_diagnostics.specs.declared.expected.Expected.TheVariants as expected
use Rattle.ndef_diagnostics.specs.declared.expected.Whose.TheVariants as whose

-- ---- where the input has ended

-- NDEF 1.0, record layout: what is missing of a piece after its first two octets
abbrev pub after_two : List ℕ → Expected
after_two s =
    let header = slice_index s 0 in
    let kind = slice_index s 1 in
    if nat_lt (length s) (2 + width header) then expected.Missing names.PayloadLength (2 + width header - length s)
    else (if nat_lt (length s) (head_length s) then expected.Missing names.IdLength 1
    else (if nat_lt (length s) (head_length s + kind) then expected.Missing names.Kind (head_length s + kind - length s)
    else (if nat_lt (length s) (before_payload s) then expected.Missing names.Id (before_payload s - length s)
    else expected.Missing names.Payload (least_record s - length s))))

-- NDEF 1.0, record layout and chunked payloads: what is missing of a piece of which these octets have come, after a
-- chunk or after none
abbrev pub missing : (in_chunks : Bool) → List ℕ → Expected
missing in_chunks [] = if in_chunks then expected.NextChunk else expected.NextRecord
missing in_chunks (header ∷ []) = expected.Missing names.KindLength 1
missing in_chunks (header ∷ kind ∷ s) = after_two (header ∷ kind ∷ s)

-- NDEF 1.0, messages: the same of an input, which ends with these octets of a piece
abbrev pub missing_after : (input : List ℕ) → (in_chunks : Bool) → List ℕ → Expected
missing_after [] in_chunks s = expected.Message
missing_after (b ∷ input) in_chunks s = missing in_chunks s

-- ---- in a message itself

-- RTD Smart Poster 1.0 and Connection Handover 1.2: a payload of a kind that holds this message has at least its least
-- length; a select is its version alone, or has four octets and more
abbrev pub of_nest : Table → Kind → (given : ℕ) → Expected
of_nest tables.Select kind given =
    if given == 2 || given == 3 then expected.SelectLength given else of_least kind (least_nest tables.Select) given
of_nest table kind given = of_least kind (least_nest table) given

-- a payload of a kind that holds this message or none has this length, and begins with these octets
abbrev pub outer_length_mismatch : Option Table → Kind → (given : ℕ) → List ℕ → Expected
outer_length_mismatch (Some table) kind given s = of_nest table kind given
outer_length_mismatch None kind given s = length_mismatch (outer_kind kind) given s

-- the expectation after these octets of a piece
abbrev pub in_message : List ℕ → Expected
in_message s =
    if is_kind_whole s
    then outer_length_mismatch (table_in (kind_begun s)) (kind_begun s) (payload_length s) (content_come s)
    else expected.Nothing

-- ---- in a nested message

-- a first record of a request
abbrev pub is_collision : Table → (number : ℕ) → Bool
is_collision table number = is_table tables.Request table && (number == 1)

-- NDEF 1.0, ME: a last record, or a collision record, ends with the payload, and any other leaves space for another
abbrev pub of_end : (collision last : Bool) → (size left : ℕ) → Expected
of_end collision last size left =
    if last
    then (if size == left then expected.Nothing
    else expected.Size (if collision then whose.LastCollision else whose.LastRecord) size left)
    else (if nat_lt (left - size) 3
    then expected.Size (if collision then whose.AfterCollision else whose.NextRecord) 3 (left - size)
    else expected.Nothing)

-- NDEF 1.0, record layout: a record, or a collision record, of at least this size, which is known to be its size or not
abbrev pub of_size : (collision known last : Bool) → (size left : ℕ) → Expected
of_size collision known last size left =
    if nat_lt left size then expected.Size (if collision then whose.Collision else whose.Record) size left
    else (if known then of_end collision last size left
    else (if not last && nat_lt (left - size) 3 then expected.Size whose.AfterShortest 3 (left - size)
    else expected.Nothing))

-- Connection Handover 1.2: the expectation after these octets of the head of the first record of a request, which is a
-- collision record: its TYPE and its payload have two octets each
abbrev pub of_collision : (left : ℕ) → List ℕ → Expected
of_collision left s =
    if is_length_whole s && not (payload_length s == 2) then expected.CollisionLength (payload_length s)
    else of_size true (not (is_set 3 (slice_index s 0)) || is_lengths_whole s) (is_set 6 (slice_index s 0))
    (head_length s + 4 + id_length s) left

-- NDEF 1.0, record layout: the expectation after these octets of a head, where this is left of the payload from the
-- first of them on
abbrev pub of_head : (left : ℕ) → List ℕ → Expected
of_head left s = of_size false (is_size_known s) (is_set 6 (slice_index s 0)) (least_record s + kind_to_come s) left

-- RTD Smart Poster 1.0, URI record: the same of a poster, in which a URI has to come where nothing else is wanted
abbrev pub or_uri : Table → Expected → (left : ℕ) → List ℕ → Expected
or_uri tables.SmartPoster expected.Nothing left s = of_uri left s
or_uri table w left s = w

-- NDEF 1.0, record layout, RTD Smart Poster 1.0 and Connection Handover 1.2: the same of any nested message
abbrev pub in_head : Table → (number left : ℕ) → List ℕ → Expected
in_head table number left s =
    if is_collision table number then of_collision left s else or_uri table (of_head left s) left s

-- RTD Smart Poster 1.0 and Connection Handover 1.2: the expectation after these octets of a piece of a nested message
abbrev pub in_nested : Table → (number left : ℕ) → List ℕ → Expected
in_nested table number left s =
    if is_kind_whole s
    then length_mismatch (kind_in table (tnf_come s) (kind_come s)) (payload_length s) (content_come s)
    else in_head table number left s

-- ---- by the reason

-- the same, by the reason
abbrev pub nested_expected : Reason → Table → (number left : ℕ) → List ℕ → Expected
nested_expected reasons.DoesNotFit table number left s = in_nested table number left s
nested_expected reasons.UriMissing table number left s = expected.UriInPoster number
nested_expected reasons.UriAgain table number left s = expected.OneUri number
nested_expected reasons.CollisionMissing table number left s = expected.CollisionFirst
nested_expected reason table number left s = expected.Nothing

-- the expectation after these octets of a piece of the message itself, by the reason
abbrev pub outer_expected : Reason → List ℕ → Expected
outer_expected reasons.DoesNotFit s = in_message s
outer_expected reason s = expected.Nothing

-- RTD Smart Poster 1.0 and Connection Handover 1.2: the nested message of which octets come next: after the version
-- of a handover
abbrev pub nest_after : Option Table → (count : ℕ) → Option Table
nest_after (Some table) count = if nat_le (version_length table) count then Some table else None
nest_after None count = None

-- the same, after these octets of a piece
abbrev pub nest_begun : List ℕ → Option Table
nest_begun s = if is_payload_begun s then nest_after (table_in (kind_begun s)) (length (content_come s)) else None

-- the number of octets left of the payload of a piece from the first of the last octets of it on
abbrev pub left_from : (come inner : List ℕ) → ℕ
left_from come inner = payload_length come - length (content_come come) + length inner

-- the expectation where a byte of this message in a payload is refused, or of none, after these octets of a piece
abbrev pub IsExpectedIn : Option Table → (bytes : List ℕ) → Refusal → (come : List ℕ) → Expected → Type 0
IsExpectedIn None bytes refusal come w = w ≡ outer_expected refusal.reason (through bytes refusal.at come)
IsExpectedIn (Some table) bytes refusal come w =
    (inner : List ℕ) × (whole : AreWholeBefore (drop (version_length table) (content_come come)) inner)
    × (w ≡ nested_expected refusal.reason table (length whole.pieces + 1) (left_from come inner)
    (through bytes refusal.at inner))

-- the reason is that the input has ended
abbrev pub is_end : Reason → Bool
is_end reasons.EndOfInput = true
is_end reason = false

-- the same, or where the input has ended, after a chunk or after none
abbrev pub IsExpectedBy : Bool → (bytes : List ℕ) → Refusal → (in_chunks : Bool) → (come : List ℕ) → Expected → Type 0
IsExpectedBy true bytes refusal in_chunks come w = w ≡ missing_after (take refusal.at bytes) in_chunks come
IsExpectedBy false bytes refusal in_chunks come w = IsExpectedIn (nest_begun come) bytes refusal come w

-- NDEF 1.0, messages: the expectation where these bytes are refused
abbrev pub IsExpected : (bytes : List ℕ) → Refusal → Expected → Type 0
IsExpected bytes refusal w =
    (come : List ℕ) × (whole : AreWholeBefore (take refusal.at bytes) come)
    × IsExpectedBy (is_end refusal.reason) bytes refusal (ends_in_chunk whole.pieces) come w
