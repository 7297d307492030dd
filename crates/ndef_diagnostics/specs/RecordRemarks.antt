-- Remarks about a record of a message that is accepted, beside the other records.
use Rattle.std.specs.Prelude.{ℕ, ◌≡◌, ◌==◌, ◌&&◌, ◌||◌, ◌+◌, zero, suc, if◌then◌else◌, not, Bool, true, false, Option, Some, None, List, [], ◌∷◌, drop, take, slice_index, nat_lt, nat_eq}
use Rattle.std.specs.Cmp.Lexicographic.{pointwise}
use Rattle.std.specs.Str.{str_eq_ignore_ascii_case}
use Rattle.ndef_format.specs.Kinds.{kind_of}
use Rattle.ndef_format.specs.Limits.{LimitValues}
use Rattle.ndef_format.specs.Messages.{run_record}
use Rattle.ndef_format.specs.Nested.{kind_in}
use Rattle.ndef_format.specs.Records.{AreOctets, Run, pieces}
use Rattle.ndef_format.specs.Refusals.{Refuses}
use Rattle.ndef_format.specs.Reasons.{NoReason}
use Rattle.ndef_format.specs.Texts.{code_length}
use Rattle.ndef_format.specs.declared.kind.Kind.{Kind}
use Rattle.ndef_format.specs.declared.kind.Kind.TheVariants as kinds
use Rattle.ndef_format.specs.declared.profile.Profile.TheVariants.{Standard}
use Rattle.ndef_format.specs.declared.refusal.Refusal.{Refusal}
use Rattle.ndef_format.specs.declared.table.Table.{Table}
use Rattle.ndef_format.specs.declared.table.Table.TheVariants as tables
use Rattle.ndef_message.specs.Views.{IsViewOf, Viewed, only_payload}
use Rattle.ndef_diagnostics.specs.TextRemarks.{is_empty, text_remark}
use Rattle.ndef_diagnostics.specs.declared.remark.Remark.{Remark}
use Rattle.ndef_diagnostics.specs.declared.remark.Remark.TheVariants as remarks

-- ---- messages of few records

-- a message of at most 64 records, which is our choice: each record is compared with the others
abbrev pub few : LimitValues
few = record { payload = 4294967295; records = 64; pieces = 65535; profile = Standard }

-- NDEF 1.0, messages: such a message with which the bytes begin; none where there is none
abbrev pub BeginsWithFew : List ℕ → Option Viewed → Type 0
BeginsWithFew bytes (Some message) = IsViewOf (λ tnf name records profile. AreOctets) few bytes message
BeginsWithFew bytes None =
    (refusal : Refusal)
    × Refuses (λ tnf name records profile. AreOctets) (λ tnf name records profile s b. NoReason) few bytes refusal

-- ---- ids

-- NDEF 1.0, ID: the number of records with this id
abbrev pub count_id : (id : List ℕ) → List Run → ℕ
count_id id [] = 0
count_id id (run ∷ runs) =
    (if pointwise nat_eq (run_record run).id id then 1 else 0) + count_id id runs

-- NDEF 1.0, ID: an id is there, and another record has it too
abbrev pub is_repeated : (id : List ℕ) → List Run → Bool
is_repeated id runs = not (is_empty id) && nat_lt 1 (count_id id runs)

-- NDEF 1.0, ID: a reference to a record of the message, by its id; no record has the empty id
abbrev pub refers : (id : List ℕ) → List Run → Bool
refers id runs = not (is_empty id) && nat_lt 0 (count_id id runs)

-- NDEF 1.0, ID: the remark about the id of a record of this message
abbrev pub repeated_remark : (message : List Run) → Run → Option Remark
repeated_remark message run =
    if is_repeated (run_record run).id message then Some remarks.RepeatedId else None

-- ---- titles

-- NDEF 1.0, record layout: the payload of a record in one piece; no octets for one in several
abbrev pub payload_or_none : Option (List ℕ) → List ℕ
payload_or_none None = []
payload_or_none (Some payload) = payload

abbrev pub whole_payload : Run → List ℕ
whole_payload run = payload_or_none (only_payload (pieces run))

-- a kind in a nested message, of a record
abbrev pub run_kind_in : Table → Run → Kind
run_kind_in table run = kind_in table (run_record run).tnf (run_record run).kind

-- RTD Smart Poster 1.0, Title record: the record is one
abbrev pub is_title_kind : Kind → Bool
is_title_kind kinds.Text = true
is_title_kind kind = false

-- RTD Text 1.0: the language code of a text
abbrev pub language_of : (payload : List ℕ) → List ℕ
language_of payload = take (code_length (slice_index payload 0)) (drop 1 payload)

-- RTD Smart Poster 1.0, Title record, RFC 5646, section 2.1.1: the record is a title in a language
abbrev pub is_title_in : (language : List ℕ) → Run → Bool
is_title_in language run =
    is_title_kind (run_kind_in tables.SmartPoster run)
    && str_eq_ignore_ascii_case (language_of (whole_payload run)) language

-- RTD Smart Poster 1.0, Title record: the number of titles in a language
abbrev pub count_language : (language : List ℕ) → List Run → ℕ
count_language language [] = 0
count_language language (run ∷ runs) =
    (if is_title_in language run then 1 else 0) + count_language language runs

-- RTD Smart Poster 1.0, Title record: the record is a title in the language of another record
abbrev pub is_title_again : Run → (poster : List Run) → Bool
is_title_again run poster =
    is_title_kind (run_kind_in tables.SmartPoster run)
    && nat_lt 1 (count_language (language_of (whole_payload run)) poster)

-- RTD Smart Poster 1.0, Title record: one of these records is one
abbrev pub has_language_twice : (titles poster : List Run) → Bool
has_language_twice [] poster = false
has_language_twice (run ∷ runs) poster =
    is_title_again run poster || has_language_twice runs poster

-- RTD Smart Poster 1.0, Title record: the remark about a poster of these records
abbrev pub poster_remark : List Run → Option Remark
poster_remark poster = if has_language_twice poster poster then Some remarks.SameLanguage else None

-- ---- handovers

-- Connection Handover 1.2, Alternative Carrier record: the record is one
abbrev pub is_carrier_kind : Kind → Bool
is_carrier_kind kinds.Alternative = true
is_carrier_kind kind = false

-- Connection Handover 1.2, Collision Resolution record: the record is one
abbrev pub is_collision_kind : Kind → Bool
is_collision_kind kinds.Collision = true
is_collision_kind kind = false

-- Connection Handover 1.2: the number of alternative carriers of a request
abbrev pub count_carriers : List Run → ℕ
count_carriers [] = 0
count_carriers (run ∷ runs) =
    (if is_carrier_kind (run_kind_in tables.Request run) then 1 else 0) + count_carriers runs

-- Connection Handover 1.2: the number of collision resolution records of a request
abbrev pub count_collisions : List Run → ℕ
count_collisions [] = 0
count_collisions (run ∷ runs) =
    (if is_collision_kind (run_kind_in tables.Request run) then 1 else 0) + count_collisions runs

-- Connection Handover 1.2, Alternative Carrier record: one of this number of references, each after its length, is to
-- no record
abbrev pub has_dangling : (count : ℕ) → List ℕ → (message : List Run) → Bool
has_dangling zero s message = false
has_dangling (suc count) s message =
    not (refers (take (slice_index s 0) (drop 1 s)) message)
    || has_dangling count (drop (1 + slice_index s 0) s) message

-- Connection Handover 1.2, Alternative Carrier record: its references are the carrier data reference after the power
-- state, and then a number of auxiliary data references
abbrev pub is_carrier_dangling : (payload : List ℕ) → (message : List Run) → Bool
is_carrier_dangling payload message =
    has_dangling 1 (drop 1 payload) message
    || has_dangling (slice_index (drop (2 + slice_index payload 1) payload) 0)
    (drop (3 + slice_index payload 1) payload) message

-- Connection Handover 1.2, Alternative Carrier record: the record is one of which a reference is to no record
abbrev pub is_dangling_in : Run → (message : List Run) → Bool
is_dangling_in run message =
    is_carrier_kind (run_kind_in tables.Request run) && is_carrier_dangling (whole_payload run) message

-- Connection Handover 1.2, Alternative Carrier record: one of these records is one
abbrev pub has_dangling_carrier : (handover message : List Run) → Bool
has_dangling_carrier [] message = false
has_dangling_carrier (run ∷ runs) message = is_dangling_in run message || has_dangling_carrier runs message

-- Connection Handover 1.2, Alternative Carrier record: the remark about the references of a handover
abbrev pub reference_remark : (handover message : List Run) → Option Remark
reference_remark handover message =
    if has_dangling_carrier handover message then Some remarks.DanglingReference else None

-- Connection Handover 1.2, Handover Request record: the remark about a request of these records
abbrev pub request_remark : (request message : List Run) → Option Remark
request_remark request message =
    if count_carriers request == 0 then Some remarks.NoCarrier
    else (if nat_lt 1 (count_collisions request) then Some remarks.SecondCollision
    else reference_remark request message)

-- ---- payloads

-- RTD Smart Poster 1.0 and Connection Handover 1.2: the remark about a nested message of a payload of this kind
abbrev pub nested_remark : Kind → (nested message : List Run) → Option Remark
nested_remark kinds.SmartPoster nested message = poster_remark nested
nested_remark kinds.Request nested message = request_remark nested message
nested_remark kinds.Select nested message = reference_remark nested message
nested_remark kind nested message = None

-- RTD Smart Poster 1.0 and Connection Handover 1.2: the octets of a nested message; in a handover a version comes first
abbrev pub nested_octets : Kind → (payload : List ℕ) → List ℕ
nested_octets kinds.SmartPoster payload = payload
nested_octets kinds.Request payload = drop 1 payload
nested_octets kinds.Select payload = drop 1 payload
nested_octets kind payload = []

-- the same, where the message could be read
abbrev pub remark_in : Kind → (nested : Option Viewed) → (message : List Run) → Option Remark
remark_in kind None message = None
remark_in kind (Some nested) message = nested_remark kind nested.runs message

-- RTD Smart Poster 1.0 and Connection Handover 1.2: the remark about the nested message of a payload of this kind
abbrev pub IsHeldRemark : Kind → (payload : List ℕ) → (message : List Run) → Option Remark → Type 0
IsHeldRemark kind payload message remark =
    (nested : Option Viewed) × BeginsWithFew (nested_octets kind payload) nested
    × (remark ≡ remark_in kind nested message)

-- RTD Text 1.0, RTD Smart Poster 1.0 and Connection Handover 1.2: the remark about a payload of this kind
abbrev pub IsKindRemark : Kind → (payload : List ℕ) → (message : List Run) → Option Remark → Type 0
IsKindRemark kinds.Text payload message remark = remark ≡ text_remark payload
IsKindRemark kinds.SmartPoster payload message remark = IsHeldRemark kinds.SmartPoster payload message remark
IsKindRemark kinds.Request payload message remark = IsHeldRemark kinds.Request payload message remark
IsKindRemark kinds.Select payload message remark = IsHeldRemark kinds.Select payload message remark
IsKindRemark kind payload message remark = remark ≡ None

-- NDEF 1.0, record layout: the remark about the payload of a record of this message
abbrev pub IsPayloadRemark : (message : List Run) → Run → Option Remark → Type 0
IsPayloadRemark message run remark =
    IsKindRemark (kind_of (run_record run).tnf (run_record run).kind) (whole_payload run) message remark
