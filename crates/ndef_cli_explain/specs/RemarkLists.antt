-- The remarks on the records of a message.
use Rattle.std.specs.Prelude.{◌≡◌, ℕ, List, [], ◌∷◌, ◌++◌, Option, Some, None, codes, decimal, map}
use Rattle.std.specs.List.{flat_map}
use Rattle.ndef_format.specs.Records.{Run}
use Rattle.ndef_diagnostics.specs.RecordRemarks.{IsPayloadRemark, repeated_remark}
use Rattle.ndef_diagnostics.specs.Remarks.{remark_text}
use Rattle.ndef_diagnostics.specs.declared.remark.Remark.{Remark}
use Rattle.ndef_message.specs.Views.{Viewed}
use Rattle.ndef_cli.specs.Quoting.{Text}
use Rattle.serde_json.specs.Data.{Data, string}
use Rattle.ndef_cli_explain.specs.OfEach.{AreOfEach}
use Rattle.ndef_cli_explain.specs.Outputs.{Pair, array_of, number_value, object_of}
use Rattle.ndef_cli_explain.specs.declared.remark_lists.RecordRemark.{RecordRemark}

-- a remark on the record of this number, if there is one
abbrev pub remarks_on : (number : ℕ) → Option Remark → List RecordRemark
remarks_on number None = []
remarks_on number (Some remark) = record { number = number; remark = remark } ∷ []

-- NDEF 1.0, messages: the remarks on a record of this message: on its id, and on its payload
abbrev pub AreRemarksOn : (message : List Run) (number : ℕ) → Run → List RecordRemark → Type 0
AreRemarksOn message number run remarks =
    (payload : Option Remark) × IsPayloadRemark message run payload
    × (remarks ≡ remarks_on number (repeated_remark message run) ++ remarks_on number payload)

-- NDEF 1.0, messages: those on all of its records; none on a message of many records
abbrev pub AreRemarksIn : Option Viewed → List RecordRemark → Type 0
AreRemarksIn None remarks = remarks ≡ []
AreRemarksIn (Some message) remarks = AreOfEach (AreRemarksOn message.runs) 1 message.runs remarks

-- the line of a remark on a record
abbrev pub record_remark_line : RecordRemark → Text
record_remark_line on =
    codes "remark: record " ++ decimal on.number ++ codes ": " ++ remark_text on.remark ++ codes "\n"

-- these lines
abbrev pub record_remark_lines : List RecordRemark → Text
record_remark_lines remarks = flat_map record_remark_line remarks

-- the object of a remark on a record
abbrev pub record_remark_object : RecordRemark → Data
record_remark_object on =
    object_of ((codes "record", number_value on.number) ∷ (codes "sentence", string (remark_text on.remark)) ∷ [])

-- the array of these, where there is one
abbrev pub record_remark_pairs : List RecordRemark → List Pair
record_remark_pairs [] = []
record_remark_pairs (on ∷ more) =
    (codes "remarks", array_of (map record_remark_object (on ∷ more))) ∷ []
