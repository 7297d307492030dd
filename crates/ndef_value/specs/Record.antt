-- Why there is no record of some parts.
use Rattle.ndef_value.specs.declared.name.NameError.{NameError}
use Rattle.ndef_value.specs.declared.name.NameError.TheVariants as name
use Rattle.ndef_value.specs.declared.record.RecordError.{RecordError}
use Rattle.ndef_value.specs.declared.record.RecordError.TheVariants as whole

-- the error of a record whose type or id is no name
abbrev pub record_error : NameError → RecordError
record_error name.TooLong = whole.TooLong
record_error name.NoMemory = whole.NoMemory
