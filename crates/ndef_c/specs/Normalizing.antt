-- A message that is written again.
use Rattle.std.specs.Prelude.{◌≡◌, ◌≢◌, ℕ, ◌<◌, ◌^◌, ◌⊎◌, nat_le, true, List, length, map, None, if◌then◌else◌}
use Rattle.std.specs.List.{AllByRecursion}
use Rattle.ndef_format.specs.Canonical.{HasLengths}
use Rattle.ndef_format.specs.Messages.{IsShaped, Item, run_record}
use Rattle.ndef_format.specs.Records.{HasShape, Run}
use Rattle.ndef_format.specs.declared.tnf.Tnf.{Tnf}
use Rattle.ndef_format.specs.declared.tnf.Tnf.TheVariants.{Unchanged}
use Rattle.ndef_message.specs.declared.form.Form.{Form}
use Rattle.ndef_message.specs.declared.form.Form.TheVariants.{Short, Long}
use Rattle.ndef_c.specs.Links.{BeginsWithRuns}
use Rattle.ndef_c.specs.Buffers.{Gives}
use Rattle.ndef_c.specs.Writes.{one_by_one}

-- NDEF 1.0, record layout: the parts of the record go together, and one piece can hold their
-- lengths
pub record IsWritable (m : Item) : Type 0 where
  pub shaped : IsShaped m
  pub lengths : HasLengths m

-- NDEF 1.0, record layout: parts of such lengths go with the type name format, and one piece can
-- hold them
pub record IsWhole (tnf : Tnf) (kind id payload : ℕ) : Type 0 where
  pub changed : tnf ≢ Unchanged
  pub shape : HasShape tnf kind id payload
  pub kind_fits : kind < 256
  pub id_fits : id < 256
  pub payload_fits : payload < 2 ^ 32

-- NDEF 1.0, messages: the records that these runs mean
abbrev pub run_records : List Run → List Item
run_records runs = map run_record runs

-- NDEF 1.0, record layout: the octets of these records, each in one piece
abbrev pub normalized : Form → List Run → List ℕ
normalized form runs = one_by_one form true None (run_records runs)

-- no flag is set but that of the long form
abbrev pub AsksForForm : ℕ → Type 0
AsksForForm flags = (flags ≡ 0) ⊎ (flags ≡ 4)

-- 4 selects the long form
abbrev pub form_with : ℕ → Form
form_with flags = if nat_le 4 flags then Long else Short

-- NDEF 1.0, record layout: each record can be in one piece, and some buffer has that many bytes
pub record CanBeNormalized (form : Form) (runs : List Run) : Type 0 where
  pub writable : AllByRecursion IsWritable (run_records runs)
  pub fits : length (normalized form runs) < 2 ^ 64

-- NDEF 1.0, messages: the bytes begin with a message that can be written again, and no other flag
-- is set
pub record MayBeNormalized (flags : ℕ) (bytes : List ℕ) : Type 0 where
  pub known : AsksForForm flags
  pub runs : List Run
  pub message : BeginsWithRuns runs bytes
  pub can : CanBeNormalized (form_with flags) runs

-- NDEF 1.0, messages: the message with which the bytes begin is given, each record in one piece
pub record GivesNormalized (flags : ℕ) (bytes before after : List ℕ) (count status : ℕ) : Type 0 where
  pub may : MayBeNormalized flags bytes
  pub gives : Gives (normalized (form_with flags) may.runs) before after count status
