-- The places of the records of messages in payloads.
use Rattle.std.specs.Prelude.{◌≡◌, ℕ, ◌+◌, ◌⊎◌, List, [], length, map, drop, Option, Some, None}
use Rattle.std.specs.List.{AllByRecursion}
use Rattle.ndef_format.specs.Messages.{Item, SpellsBy, run_record}
use Rattle.ndef_format.specs.Records.{Run}
use Rattle.ndef_format.specs.declared.profile.Profile.{Profile}
use Rattle.ndef_types.specs.Contents.{IsFirstOf, Lack}
use Rattle.ndef_c.specs.Walks.{BeginsWithRun, LieBetween, Lies}
use Rattle.ndef_c.specs.declared.nested.Found.{Found}

-- NDEF 1.0, messages: the bytes are a message of these records, each in one piece
pub record IsInPieces (profile : Profile) (items : List Item) (bytes : List ℕ) : Type 0 where
  pub runs : List Run
  pub spelling : SpellsBy profile runs items bytes
  pub single : AllByRecursion (λ r. r.later ≡ []) runs

-- NDEF 1.0, messages: they are such a message, or there are no bytes and no records
abbrev pub MayBeInPieces : Profile → List Item → List ℕ → Type 0
MayBeInPieces profile items bytes = ((items ≡ []) × (bytes ≡ [])) ⊎ IsInPieces profile items bytes

-- NDEF 1.0, record layout: after these records, one after another, comes the record, in one piece,
-- and the last of its parts, the payload, begins at the place
pub record StandsAt (bytes : List ℕ) (before : List Item) (i : Item) (at : ℕ) : Type 0 where
  pub runs : List Run
  pub are : map run_record runs ≡ before
  pub from : ℕ
  pub between : LieBetween bytes 0 runs from
  pub run : Run
  pub is : run_record run ≡ i
  pub single : run.later ≡ []
  pub begins : BeginsWithRun run (drop (at + length i.payload) bytes) (drop from bytes)

-- .. after records of which this holds
abbrev pub LiesAfter : (List Item → Type 0) → List ℕ → Item → ℕ → Type 0
LiesAfter Q bytes i at = (before : List Item) × Q before × StandsAt bytes before i at

-- it is the payload of the record, and lies there, after records of which this holds
pub record IsFound (Q : List Item → Type 0) (bytes : List ℕ) (i : Item) (f : Found) : Type 0 where
  pub payload : f.payload.now ≡ i.payload
  pub lies : Lies bytes f.at (length f.payload.now) i.payload
  pub place : LiesAfter Q bytes i f.at

-- the payload of the first record that has the property, if there is one
abbrev pub FirstLies : (Item → Type 0) → List Item → List ℕ → Option Found → Type 0
FirstLies P items bytes None = Lack P items
FirstLies P items bytes (Some f) =
    (i : Item) × IsFirstOf P items (Some i) × IsFound (Lack P) bytes i f

-- 1 and the number, or 0 and 0 for none
abbrev pub TellsNumber : Option ℕ → (has number : ℕ) → Type 0
TellsNumber None has number = (has ≡ 0) × (number ≡ 0)
TellsNumber (Some n) has number = (has ≡ 1) × (number ≡ n)
