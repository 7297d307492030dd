-- The references of a handover to the records of its message (NFC Forum, Connection Handover 1.2).
use Rattle.std.specs.Prelude.{◌≡◌, ◌<◌, ◌≤◌, ◌&&◌, not, Bool, List, [], length, Option, Some, None, Result, Ok, Err, codes}
use Rattle.std.specs.List.{find, flat_map, list_any}
use Rattle.std.specs.Option.{option_map_or}
use Rattle.std.specs.Str.{bytes_eq}
use Rattle.clap.specs.Words.{Row, Text}
use Rattle.ndef_format.specs.Messages.{Item}
use Rattle.ndef_cli_make.specs.Asked.{AskedPart}
use Rattle.ndef_cli_make.specs.CarrierWords.{link_said}
use Rattle.ndef_cli_make.specs.Options.{subject_named, option_words}
use Rattle.ndef_cli_make.specs.declared.fault.Fault.{Fault}
use Rattle.ndef_cli_make.specs.declared.fault.Fault.TheVariants.{Refused, Memory}
use Rattle.ndef_cli_make.specs.declared.fault.Refused.TheVariants.{NoRecord, PartTooLong}
use Rattle.ndef_cli_make.specs.declared.options.Subject.{Subject}
use Rattle.ndef_cli_make.specs.declared.options.Subject.TheVariants as subject

-- Connection Handover 1.2, Alternative Carrier record: the references in the word of a carrier
abbrev pub references_in : Text → List Text
references_in word = option_map_or (λ link. link.1) (link_said word) []

-- Connection Handover 1.2, Alternative Carrier record: the references of the carriers of a
-- handover; others have none
abbrev pub references_for : Option Subject → List Row → List Text
references_for (Some subject.Handover) rows =
    flat_map references_in (option_words (codes "carrier") rows)
references_for _ rows = []

-- the references of a part
abbrev pub references_of : AskedPart → List Text
references_of part = references_for (subject_named part.0) part.1

-- NDEF 1.0, ID: whether a record has this id; no record has the empty one
abbrev pub is_id : List Item → Text → Bool
is_id items id = not (bytes_eq id []) && list_any (λ i. bytes_eq i.id id) items

-- Connection Handover 1.2, Carrier Data Reference: whether no record has the id that is referred to
abbrev pub is_missing : List Item → Text → Bool
is_missing items reference = not (is_id items reference)

-- Connection Handover 1.2, Carrier Data Reference: the first reference without a record
abbrev pub missing_reference : List AskedPart → List Item → Option Text
missing_reference parts items = find (is_missing items) (flat_map references_of parts)

-- ---- step by step

-- NDEF 1.0, ID: as long as an id, and too long to be kept without memory
abbrev pub IsLongName : Text → Type 0
IsLongName name = (32 < length name) × (length name < 256)

-- no reference is missing, or this one is
abbrev pub FindsMissing : (missing : Option Text) → Result Unit Fault → Type 0
FindsMissing missing (Ok done) = missing ≡ None
FindsMissing missing (Err (Refused (NoRecord reference))) = missing ≡ Some reference
FindsMissing missing (Err (Refused PartTooLong)) =
    (reference : Text) × (missing ≡ Some reference) × (256 ≤ length reference)
FindsMissing missing (Err Memory) =
    (reference : Text) × (missing ≡ Some reference) × IsLongName reference
FindsMissing missing (Err _) = ⊥

-- each reference has a record, or this one is the first without
abbrev pub AreFound : List Item → List Text → Result Unit Fault → Type 0
AreFound items references result = FindsMissing (find (is_missing items) references) result
