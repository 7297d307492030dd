-- The messages that are accepted (NFC Forum, NDEF 1.0, and the standards of the payloads).
use Rattle.std.specs.Prelude.{ℕ, List, ◌++◌}
use Rattle.std.specs.List.{AllByRecursion}
use Rattle.ndef_format.specs.Messages.{Item, SpellsBy}
use Rattle.ndef_format.specs.Limits.{LimitValues, IsWithin}
use Rattle.ndef_format.specs.Payloads.{Sets}
use Rattle.ndef_format.specs.Records.{Run}

-- the payload of the record is one of its type
abbrev pub IsMember : Sets → LimitValues → Item → Type 0
IsMember set limits m = set m.tnf m.kind limits.records limits.profile m.payload

-- NDEF 1.0, messages: the bytes spell these records, within the limits, and each payload is one of
-- its type
pub record Accepted (set : Sets) (limits : LimitValues) (items : List Item) (bytes : List ℕ) : Type 0 where
  pub runs : List Run
  pub spelling : SpellsBy limits.profile runs items bytes
  pub within : IsWithin limits runs
  pub members : AllByRecursion (IsMember set limits) items

-- the bytes are such a message
abbrev pub IsAccepted : Sets → LimitValues → List ℕ → Type 0
IsAccepted set limits bytes = (items : List Item) × Accepted set limits items bytes

-- some bytes, perhaps none, complete it to such a message
abbrev pub IsViable : Sets → LimitValues → List ℕ → Type 0
IsViable set limits bytes = (more : List ℕ) × IsAccepted set limits (bytes ++ more)
