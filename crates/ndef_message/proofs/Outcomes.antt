-- The answers if there is a message.
use Rattle.std.specs.Prelude.{IfOk, Result, Ok, Err}
use Rattle.ndef_format.specs.Limits.{LimitValues}
use Rattle.ndef_format.specs.Payloads.{Sets}
use Rattle.ndef_format.specs.Reasons.{Conditions}
use Rattle.ndef_message.specs.Checkings.{CheckHasTaken, ChecksFrom, TakesRecords}
use Rattle.ndef_message.specs.Readings.{ReadHasTaken, ReadsFrom, TakesWholeMessage}
use Rattle.ndef_message.specs.Sources.{SourceState}
use Rattle.ndef_message.specs.declared.message_checking.CheckError.{CheckError}
use Rattle.ndef_message.specs.declared.message_checking.Checked.{Checked}
use Rattle.ndef_message.specs.declared.message_reading.Read.{Read}
use Rattle.ndef_message.specs.declared.message_reading.ReadError.{ReadError}

module _ (set : Sets) (holds : Conditions) (limits : LimitValues) (before after : SourceState) where
  -- a message was read
  pub message_read : (result : Result Read ReadError)
      → ReadsFrom set holds limits before.coming after.coming result
      → ReadHasTaken limits before.taken after.taken result
      → IfOk result (λ read. TakesWholeMessage set limits before after read.message read.taken)
  message_read (Ok read) reads counts = (reads, counts)
  message_read (Err error) reads counts = tt

  -- a message was found
  pub message_found : (result : Result Checked CheckError)
      → ChecksFrom set holds limits before.coming after.coming result
      → CheckHasTaken limits before.taken after.taken result
      → IfOk result (λ checked. TakesRecords set limits before after checked.records checked.taken)
  message_found (Ok checked) checks counts = (checks, counts)
  message_found (Err error) checks counts = tt
