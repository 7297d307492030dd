-- The parts of a message.
use Rattle.std.specs.Prelude.{◌≡◌, ◌<◌, List, [], length, Result, Ok, Err}
use Rattle.ndef_format.specs.Messages.{Item}
use Rattle.ndef_format.specs.Canonical.{AreItems}
use Rattle.ndef_value.specs.declared.message.MessageError.{MessageError}
use Rattle.ndef_value.specs.declared.message.MessageError.TheVariants.{NoRecords, TooMany}

-- a message of the records, or the records back
abbrev pub GivesMessage : List Item → Result (List Item) MessageError → Type 0
GivesMessage records (Ok m) = (m ≡ records) × AreItems records
GivesMessage records (Err (NoRecords back)) = (back.items ≡ records) × (records ≡ [])
GivesMessage records (Err (TooMany back)) = (back.items ≡ records) × (65535 < length records)
