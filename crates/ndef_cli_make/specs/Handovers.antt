-- Handover requests and selects (NFC Forum, Connection Handover 1.2).
use Rattle.std.specs.Prelude.{◌≡◌, ◌<◌, ◌≤◌, ◌+◌, ◌^◌, ◌⊎◌, ◌&&◌, not, ℕ, Bool, List, [], ◌∷◌, length, nat_lt, Option, Some, None, IfSome, Result, Ok, Err, ⊤, codes, if◌then◌else◌, option_and_then, option_map, Vec}
use Rattle.std.specs.declared.alloc.Global.{Global}
use Rattle.std.specs.Int.{w16, to_be_bytes}
use Rattle.std.specs.List.{AllByRecursion, list_all}
use Rattle.std.specs.Str.{bytes_eq}
use Rattle.clap.specs.Words.{Row, Text, first_of}
use Rattle.ndef_format.specs.Canonical.{canonical}
use Rattle.ndef_format.specs.Handovers.{IsErrorData}
use Rattle.ndef_format.specs.Messages.{Item}
use Rattle.ndef_format.specs.Nested.{HasContents}
use Rattle.ndef_format.specs.declared.profile.Profile.TheVariants.{Strict}
use Rattle.ndef_format.specs.declared.table.Table.TheVariants as tables
use Rattle.ndef_types.specs.Contents.{IsFirstWrong}
use Rattle.ndef_types.specs.Handovers.{WritesRequest, WritesSelect, canonical_or_none}
use Rattle.ndef_types.specs.Values.{AcValue, ErrorValue, WritesAc, WritesError, ac_payload, error_payload}
use Rattle.ndef_types.specs.declared.power.Power.{Power}
use Rattle.ndef_cli_make.specs.CarrierWords.{link_said}
use Rattle.ndef_cli_make.specs.Octets.{octets_in}
use Rattle.ndef_cli_make.specs.Options.{cut_at, is_colon, is_said, number_below, word_or}
use Rattle.ndef_cli_make.specs.Records.{Answer, MakesSaid, typed_record}
use Rattle.ndef_cli_make.specs.declared.fault.Fault.{Fault}
use Rattle.ndef_cli_make.specs.declared.fault.Fault.TheVariants.{Refused, Memory}
use Rattle.ndef_cli_make.specs.declared.fault.Refused.TheVariants.{BadError, NoHandover, PartTooLong, PayloadTooLong, TooManyRecords, TooManyReferences}
use Rattle.ndef_cli_make.specs.declared.handover.Handover.{Handover}
use Rattle.ndef_cli_make.specs.declared.handover.Side.{Side}
use Rattle.ndef_cli_make.specs.declared.handover.Side.TheVariants.{Request, Select}
use Rattle.ndef_cli_make.specs.declared.usage_error.UsageError.TheVariants as usage_error

-- ---- carriers

-- Connection Handover 1.2, Alternative Carrier record: a carrier reference and the auxiliary
-- references after it
abbrev pub ac_of : Power → List Text → Option AcValue
ac_of power [] = None
ac_of power (reference ∷ auxiliary) =
    Some (record { power = power; reference = reference; auxiliary = auxiliary; rest = [] })

-- Connection Handover 1.2, Alternative Carrier record: the carrier that a word denotes
abbrev pub ac_said : Text → Option AcValue
ac_said word = option_and_then (λ link. ac_of link.0 link.1) (link_said word)

-- Connection Handover 1.2, Carrier Data Reference: each has at most 255 octets
abbrev pub AreShort : List Text → Type 0
AreShort references = AllByRecursion (λ reference. length reference < 256) references

-- the same as a test
abbrev pub are_short : List Text → Bool
are_short references = list_all (λ reference. nat_lt (length reference) 256) references

-- Connection Handover 1.2, Alternative Carrier record: the record of a carrier; none where a
-- reference is too long or there are too many
abbrev pub MakesAlternative : AcValue → Answer → Type 0
MakesAlternative v (Ok i) = AreShort (v.reference ∷ v.auxiliary) × (length v.auxiliary < 256)
    × WritesAc v i.payload × (length i.payload < 2 ^ 32) × (i ≡ typed_record (codes "ac") i.payload)
MakesAlternative v (Err (Refused PartTooLong)) = AreShort (v.reference ∷ v.auxiliary) → ⊥
MakesAlternative v (Err (Refused TooManyReferences)) = AreShort (v.reference ∷ v.auxiliary)
    × (256 ≤ length v.auxiliary)
MakesAlternative v (Err (Refused PayloadTooLong)) = 2 ^ 32 ≤ length (ac_payload v)
MakesAlternative v (Err Memory) = AreShort (v.reference ∷ v.auxiliary) × (length v.auxiliary < 256)
MakesAlternative v (Err _) = ⊥

-- ---- errors

-- Connection Handover 1.2, Error record: a reason and its data, if both are given
abbrev pub error_of_words : Option ℕ → Option (List ℕ) → Option ErrorValue
error_of_words (Some reason) (Some detail) = Some (record { reason = reason; detail = detail })
error_of_words _ _ = None

-- Connection Handover 1.2, Error record: a reason, a colon, and its data in hexadecimal digits
abbrev pub error_said : Text → Option ErrorValue
error_said word =
    option_and_then (λ cut. error_of_words (number_below 256 cut.0) (octets_in cut.1)) (cut_at is_colon word)

-- Connection Handover 1.2, Error record: the record of an error; none where the data doesn't go
-- with the reason
abbrev pub MakesError : ErrorValue → Answer → Type 0
MakesError v (Ok i) =
    IsErrorData v.reason v.detail × WritesError v i.payload × (length i.payload < 2 ^ 32)
    × (i ≡ typed_record (codes "err") i.payload)
MakesError v (Err (Refused BadError)) = IsErrorData v.reason v.detail → ⊥
MakesError v (Err (Refused PayloadTooLong)) =
    IsErrorData v.reason v.detail × (2 ^ 32 ≤ length (error_payload v))
MakesError v (Err Memory) = IsErrorData v.reason v.detail
MakesError v (Err _) = ⊥

-- Connection Handover 1.2, Error record: the record of the error of a word, if it gives one.
-- Memory may run out for the octets of its digits
abbrev pub AsksError : Text → Answer → Type 0
AsksError word (Err Memory) = (v : ErrorValue) × (error_said word ≡ Some v)
AsksError word answer = MakesSaid usage_error.Reason MakesError (error_said word) answer

-- ---- collisions

-- Connection Handover 1.2, Collision Resolution record: a random number in two octets, most
-- significant first
abbrev pub collision_said : Text → Option Item
collision_said word =
    option_map (λ number. typed_record (codes "cr") (to_be_bytes w16 number)) (number_below 65536 word)

-- ---- the handover

-- Connection Handover 1.2: the handover of this name
abbrev pub side_named : Text → Option Side
side_named name = if bytes_eq name (codes "request") then Some Request
    else (if bytes_eq name (codes "select") then Some Select else None)

-- Connection Handover 1.2, version octet: the minor version of this name, after the major version 1
abbrev pub minor_named : Text → Option ℕ
minor_named name = if bytes_eq name (codes "1.0") then Some 0
    else (if bytes_eq name (codes "1.1") then Some 1
    else (if bytes_eq name (codes "1.2") then Some 2
    else (if bytes_eq name (codes "1.3") then Some 3
    else (if bytes_eq name (codes "1.4") then Some 4
    else (if bytes_eq name (codes "1.5") then Some 5
    else (if bytes_eq name (codes "1.6") then Some 6
    else (if bytes_eq name (codes "1.7") then Some 7
    else (if bytes_eq name (codes "1.8") then Some 8
    else (if bytes_eq name (codes "1.9") then Some 9
    else (if bytes_eq name (codes "1.10") then Some 10
    else (if bytes_eq name (codes "1.11") then Some 11
    else (if bytes_eq name (codes "1.12") then Some 12
    else (if bytes_eq name (codes "1.13") then Some 13
    else (if bytes_eq name (codes "1.14") then Some 14
    else (if bytes_eq name (codes "1.15") then Some 15 else None)))))))))))))))

-- Connection Handover 1.2: a request has a collision resolution and no error, a select no collision
-- resolution
abbrev pub goes_with : Side → List Row → Bool
goes_with Request rows = is_said (codes "collision") rows && not (is_said (codes "error") rows)
goes_with Select rows = not (is_said (codes "collision") rows)

-- the handover of a side, whose options go with it; its version is 1.2 where none is given
abbrev pub handover_of : List Row → Side → Option Handover
handover_of rows side = if goes_with side rows
    then option_map (λ minor. record { side = side; minor = minor })
    (minor_named (word_or (codes "version") (codes "1.2") rows))
    else None

-- Connection Handover 1.2: the handover of a part
abbrev pub handover_said : List Row → Option Handover
handover_said rows =
    option_and_then (handover_of rows) (option_and_then side_named (first_of (codes "kind") rows))

-- Connection Handover 1.2, Handover Request record: the record of a request of these records
abbrev pub MakesRequestRecord : ℕ → List Item → Answer → Type 0
MakesRequestRecord minor items (Ok i) = HasContents tables.Request Strict items
    × WritesRequest (record { minor = minor; items = items }) i.payload
    × (length i.payload < 2 ^ 32)
    × (i ≡ typed_record (codes "Hr") i.payload)
MakesRequestRecord minor items (Err (Refused NoHandover)) = (length items ≤ 65535)
    × ((items ≡ []) ⊎ ((index : ℕ) × IsFirstWrong tables.Request items index))
MakesRequestRecord minor items (Err (Refused TooManyRecords)) = 65535 < length items
MakesRequestRecord minor items (Err (Refused PayloadTooLong)) =
    (payload : List ℕ) × WritesRequest (record { minor = minor; items = items }) payload
    × (2 ^ 32 ≤ length payload)
MakesRequestRecord minor items (Err Memory) =
    HasContents tables.Request Strict items × (1 + length (canonical items) < 2 ^ 32)
MakesRequestRecord minor items (Err _) = ⊥

-- Connection Handover 1.2, Handover Select record: the message of a select; none where there are no
-- records
abbrev pub selected : List Item → Option (List Item)
selected [] = None
selected (i ∷ items) = Some (i ∷ items)

-- Connection Handover 1.2, Handover Select record: the record of a select of these records
abbrev pub MakesSelectRecord : ℕ → List Item → Answer → Type 0
MakesSelectRecord minor items (Ok i) = IfSome (selected items) (HasContents tables.Select Strict)
    × WritesSelect (record { minor = minor; message = selected items }) i.payload
    × (length i.payload < 2 ^ 32)
    × (i ≡ typed_record (codes "Hs") i.payload)
MakesSelectRecord minor items (Err (Refused NoHandover)) =
    (index : ℕ) × (length items ≤ 65535) × IsFirstWrong tables.Select items index
MakesSelectRecord minor items (Err (Refused TooManyRecords)) = 65535 < length items
MakesSelectRecord minor items (Err (Refused PayloadTooLong)) =
    (payload : List ℕ) × WritesSelect (record { minor = minor; message = selected items }) payload
    × (2 ^ 32 ≤ length payload)
MakesSelectRecord minor items (Err Memory) =
    IfSome (selected items) (HasContents tables.Select Strict)
    × (1 + length (canonical_or_none (selected items)) < 2 ^ 32)
MakesSelectRecord minor items (Err _) = ⊥

-- Connection Handover 1.2: the record of a request or a select of these records
abbrev pub MakesSide : Side → ℕ → List Item → Answer → Type 0
MakesSide Request minor items answer = MakesRequestRecord minor items answer
MakesSide Select minor items answer = MakesSelectRecord minor items answer

-- Connection Handover 1.2: the record of a handover of these records
abbrev pub MakesHandoverOf : Handover → List Item → Answer → Type 0
MakesHandoverOf handover items answer = MakesSide handover.side handover.minor items answer

-- ---- step by step

-- references of a carrier and of its auxiliary records: none is too long, and there aren't too many
abbrev pub FitReferences : List Text → Type 0
FitReferences references = AreShort references × (length references ≤ 256)

-- the same, or their usage error
abbrev pub ChecksReferences : List Text → Result Unit Fault → Type 0
ChecksReferences references (Ok done) = FitReferences references
ChecksReferences references (Err (Refused PartTooLong)) = AreShort references → ⊥
ChecksReferences references (Err (Refused TooManyReferences)) =
    AreShort references × (256 < length references)
ChecksReferences references (Err _) = ⊥

-- the names of references
abbrev pub AreNames : List Text → Result (Vec (List ℕ) Global) Fault → Type 0
AreNames references (Ok names) = (names.items ≡ references) × AreShort references
AreNames references (Err Memory) = ⊤
AreNames references (Err _) = ⊥

-- Connection Handover 1.2, Alternative Carrier record: the record of a carrier whose references
-- aren't too long
abbrev pub MakesAcRecord : AcValue → Answer → Type 0
MakesAcRecord v (Ok i) =
    (length v.auxiliary < 256) × WritesAc v i.payload × (length i.payload < 2 ^ 32)
    × (i ≡ typed_record (codes "ac") i.payload)
MakesAcRecord v (Err (Refused TooManyReferences)) = 256 ≤ length v.auxiliary
MakesAcRecord v (Err (Refused PayloadTooLong)) = 2 ^ 32 ≤ length (ac_payload v)
MakesAcRecord v (Err Memory) = length v.auxiliary < 256
MakesAcRecord v (Err _) = ⊥

-- the message of a select, where it has records
abbrev pub IsSelected : List Item → Result (Option (List Item)) Fault → Type 0
IsSelected items (Ok message) = message ≡ selected items
IsSelected items (Err (Refused TooManyRecords)) = 65535 < length items
IsSelected items (Err _) = ⊥
