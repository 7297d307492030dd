-- The reason why no message is made, the output for it, and the status.
use Rattle.std.specs.Prelude.{◌++◌, ◌-◌, ℕ, [], codes, decimal, Option, Some}
use Rattle.clap.specs.Words.{Text}
use Rattle.ndef_message.specs.declared.input.InputError.{InputError}
use Rattle.ndef_message.specs.declared.input.InputError.TheVariants as inputs
use Rattle.ndef_types.specs.declared.error.EncodeError.{EncodeError}
use Rattle.ndef_types.specs.declared.error.EncodeError.TheVariants as encode
use Rattle.ndef_types.specs.declared.handover_error.DetailError.{DetailError}
use Rattle.ndef_types.specs.declared.handover_error.DetailError.TheVariants as details
use Rattle.ndef_types.specs.declared.text.TextError.{TextError}
use Rattle.ndef_types.specs.declared.text.TextError.TheVariants as texts
use Rattle.ndef_value.specs.declared.name.NameError.{NameError}
use Rattle.ndef_value.specs.declared.name.NameError.TheVariants as names
use Rattle.ndef_value.specs.declared.record.RecordError.{RecordError}
use Rattle.ndef_value.specs.declared.record.RecordError.TheVariants as records
use Rattle.ndef_cli_make.specs.declared.fault.Fault.{Fault}
use Rattle.ndef_cli_make.specs.declared.fault.Fault.TheVariants.{Usage, UsageAt, EditAt, Refused, Reading, TooLong, Memory}
use Rattle.ndef_cli_make.specs.declared.fault.Refused.{Refused as Unwritable}
use Rattle.ndef_cli_make.specs.declared.fault.Refused.TheVariants as refused
use Rattle.ndef_cli.specs.Outcomes.{refusal_text}
use Rattle.ndef_cli.specs.Quoting.{quoted}
use Rattle.ndef_cli.specs.declared.status.Status.{Status}
use Rattle.ndef_cli_make.specs.SizeChecks.{most_in}
use Rattle.ndef_cli_make.specs.UsageErrors.{usage_at, usage_line}
use Rattle.ndef_cli.specs.declared.status.Status.TheVariants as status

-- ---- errors of the input and of parts

-- why the payload on the input isn't read
abbrev pub input_fault : InputError → Fault
input_fault inputs.ReadFault = Reading
input_fault inputs.TooLong = TooLong
input_fault inputs.NoMemory = Memory

-- RTD Text 1.0, language code: why there is no text
abbrev pub text_fault : TextError → Fault
text_fault texts.TooLong = Refused refused.LanguageTooLong
text_fault texts.NotAscii = Refused refused.LanguageNotAscii
text_fault texts.NoMemory = Memory

-- NDEF 1.0, PAYLOAD_LENGTH: why there is no payload
abbrev pub encode_fault : EncodeError → Fault
encode_fault encode.TooLong = Refused refused.PayloadTooLong
encode_fault encode.NoMemory = Memory

-- NDEF 1.0, TYPE_LENGTH and ID_LENGTH: why there is no name
abbrev pub name_fault : NameError → Fault
name_fault names.TooLong = Refused refused.PartTooLong
name_fault names.NoMemory = Memory

-- NDEF 1.0, record layout: why there is no record
abbrev pub record_fault : RecordError → Fault
record_fault records.BadShape = Refused refused.BadShape
record_fault records.TooLong = Refused refused.PartTooLong
record_fault records.NoMemory = Memory

-- Connection Handover 1.2, Error record: why there is no error
abbrev pub detail_fault : DetailError → Fault
detail_fault details.BadShape = Refused refused.BadError
detail_fault details.NoMemory = Memory

-- ---- the record at fault

-- the same fault, of the record of this number
abbrev pub fault_at : ℕ → Fault → Fault
fault_at n (Usage usage_error) = UsageAt n usage_error
fault_at n fault = fault

-- the same fault: of an edit, where a file is named whose message is edited
abbrev pub fault_after : (file : Option Text) → Fault → Fault
fault_after (Some name) (UsageAt n usage_error) = EditAt n usage_error
fault_after file fault = fault

-- ---- the output

-- a request that can't be written, in words; what `refused_rest` says follows some of them
abbrev pub refused_words : Unwritable → Text
refused_words refused.LanguageTooLong = codes "a language code of more than 63 bytes"
refused_words refused.LanguageNotAscii = codes "a language code that is not ASCII"
refused_words refused.PayloadTooLong = codes "a payload of more than 4294967295 bytes"
refused_words refused.BadShape = codes "parts that do not go with the type name format"
refused_words refused.PartTooLong = codes "a type or an id of more than 255 bytes"
refused_words (refused.BadPayload refusal) = codes "payload at "
refused_words refused.NoPoster = codes "records that are no smart poster"
refused_words refused.NoHandover = codes "records that are no handover"
refused_words refused.BadError = codes "data that do not go with the reason of an error"
refused_words refused.TooManyReferences = codes "more than 255 auxiliary references"
refused_words (refused.NoRecord reference) = codes "no record has the id "
refused_words (refused.NoRoom size room) = []
refused_words refused.TooManyRecords = codes "more than 65535 records"
refused_words (refused.BadMessage refusal) = codes "message of --from at "
refused_words (refused.BytesAfter at) = codes "bytes after the message of --from at "
refused_words refused.NoRecords = codes "no record of the message is left"

-- Type 2 Tag, NDEF Message TLV: the length of a message that is too long for a tag, and how much it is too long
abbrev pub lengths_text : (n room : ℕ) → Text
lengths_text n room =
    codes "a message of " ++ decimal n ++ codes " bytes, and the tag has room for "
    ++ decimal (most_in room) ++ codes ": " ++ decimal (n - most_in room) ++ codes " too many"

-- where and why bytes are refused, where bytes are left, the id, or the lengths
abbrev pub refused_rest : Unwritable → Text
refused_rest (refused.BadPayload refusal) = refusal_text refusal.at refusal.reason
refused_rest (refused.BadMessage refusal) = refusal_text refusal.at refusal.reason
refused_rest (refused.BytesAfter at) = decimal at
refused_rest (refused.NoRecord reference) = quoted reference
refused_rest (refused.NoRoom size room) = lengths_text size room
refused_rest _ = []

-- the line of a request that can't be written
abbrev pub refused_line : Unwritable → Text
refused_line r = codes "refused: " ++ refused_words r ++ refused_rest r ++ codes "\n"

-- the line of a fault
abbrev pub line_of : Fault → Text
line_of (Usage usage_error) = usage_line usage_error
line_of (UsageAt n usage_error) = usage_at (codes "record ") n usage_error
line_of (EditAt n usage_error) = usage_at (codes "edit ") n usage_error
line_of (Refused r) = refused_line r
line_of Reading = codes "fault: reading\n"
line_of TooLong = codes "fault: more than 1048576 bytes of input\n"
line_of Memory = codes "fault: memory\n"

-- ---- the status

-- the status of a fault
abbrev pub fault_status : Fault → Status
fault_status (Usage usage_error) = status.Usage
fault_status (UsageAt n usage_error) = status.Usage
fault_status (EditAt n usage_error) = status.Usage
fault_status (Refused why) = status.Refused
fault_status _ = status.Fault
