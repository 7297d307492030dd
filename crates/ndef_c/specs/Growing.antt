-- The records in a buffer after they have been appended to it.
use Rattle.std.specs.Prelude.{◌≡◌, ℕ, ◌+◌, ◌≤◌, Bool, true, false, List, [], ◌∷◌, ◌++◌, length, map, take}
use Rattle.std.specs.List.{AllByRecursion}
use Rattle.ndef_format.specs.Canonical.{IsItem}
use Rattle.ndef_format.specs.Messages.{Item, Spells}
use Rattle.ndef_format.specs.declared.profile.Profile.{Profile}
use Rattle.ndef_c.specs.Built.{AppendedBegins, GivesAppended, Holding, IsUnbuilt, appended_octets, is_first_of}
use Rattle.ndef_c.specs.Writes.{form_of, record_octets, size_of}
use Rattle.ndef_c.specs.declared.status.TheConstants.{OK}
use Rattle.ndef_c.specs.declared.writing.NdefWriting.{NdefWriting}

-- a record, and how it is written
pub record Appended : Type 0 where
  pub how : NdefWriting
  pub item : Item

-- NDEF 1.0, MB: the record after these is the first of its message
abbrev pub opens : Bool → List Appended → Bool
opens first [] = first
opens first (a ∷ others) = false

-- NDEF 1.0, ME: the octets of records that others follow
abbrev pub followed_octets : Bool → List Appended → List ℕ
followed_octets first [] = []
followed_octets first (a ∷ others) =
    record_octets (form_of a.how) first false (size_of a.how) a.item ++ followed_octets false others

-- NDEF 1.0, messages: the buffer begins with these records and a last one, each written as it was
-- requested, and the holding agrees with them
pub record HoldsRecords (records : List Appended) (last : Appended) (h : Holding) : Type 0 where
  pub within : h.builder.length ≤ length h.buffer
  pub bytes : take h.builder.length h.buffer
      ≡ followed_octets true records ++ appended_octets (opens true records) last.how last.item
  pub at : ℕ
  pub begins : AppendedBegins (opens true records) last.how last.item at
  pub last_at : h.builder.last_at ≡ length (followed_octets true records) + at
  pub count : h.builder.records ≡ length records + 1

-- the record was appended
abbrev pub IsAppended : Appended → (before after : Holding) → ℕ → Type 0
IsAppended a before after count =
    GivesAppended (appended_octets (is_first_of before.builder) a.how a.item)
    (AppendedBegins (is_first_of before.builder) a.how a.item) before after count OK

-- ---- laws

-- The first record that is appended is the message.
abbrev pub FirstIsHeld : Type 0
FirstIsHeld = (a : Appended) (before after : Holding) (count : ℕ) → IsUnbuilt before.builder
    → IsAppended a before after count → HoldsRecords [] a after

-- Each further one is its last record, after those that were there.
abbrev pub OthersAreHeld : Type 0
OthersAreHeld = (records : List Appended) (last a : Appended) (before after : Holding) (count : ℕ)
    → HoldsRecords records last before → IsAppended a before after count
    → HoldsRecords (records ++ last ∷ []) a after

-- NDEF 1.0, messages: The records that a buffer holds, each in the form and the pieces that were
-- requested, are a message.
abbrev pub HeldAreAMessage : Type 0
HeldAreAMessage = (profile : Profile) (records : List Appended) (last : Appended) (h : Holding)
    → HoldsRecords records last h → AllByRecursion (λ a. IsItem a.item) (records ++ last ∷ [])
    → Spells profile (map (λ a. a.item) (records ++ last ∷ [])) (take h.builder.length h.buffer)
