-- Smart posters (NFC Forum, RTD Smart Poster 1.0).
use Rattle.std.specs.Prelude.{◌≡◌, ◌==◌, ◌⊎◌, ℕ, Bool, true, false, List, [], ◌∷◌, length, map, filter, ⊤, slice_index, option_map, nat_lt, Option, Some, Result, Ok, Err, if◌then◌else◌}
use Rattle.std.specs.Int.{w32, from_be_bytes}
use Rattle.ndef_format.specs.Messages.{Item, SpellsBy}
use Rattle.ndef_format.specs.Records.{Run}
use Rattle.ndef_format.specs.Canonical.{AreItems, canonical}
use Rattle.ndef_format.specs.declared.profile.Profile.{Profile}
use Rattle.ndef_format.specs.declared.profile.Profile.TheVariants.{Strict}
use Rattle.ndef_format.specs.declared.kind.Kind.{Kind}
use Rattle.ndef_format.specs.declared.kind.Kind.TheVariants as kinds
use Rattle.ndef_format.specs.Nested.{HasContents, kind_in, is_uri}
use Rattle.ndef_format.specs.declared.table.Table.TheVariants.{SmartPoster}
use Rattle.ndef_types.specs.Contents.{AreInOrder, IsFirstOf, IsFirstWrong, IsOfKind, Lack}
use Rattle.ndef_types.specs.Values.{TextValue, StandsForText, StandsForUri}
use Rattle.ndef_types.specs.declared.action.Action.{Action}
use Rattle.ndef_types.specs.declared.action.Action.TheVariants.{Do, Save, Open, Other}
use Rattle.ndef_types.specs.declared.smart_poster.NotPoster.{NotPoster}

-- RTD Smart Poster 1.0: the records of a poster
pub record IsPosterValue (poster : List Item) : Type 0 where
  pub items : AreItems poster
  pub contents : HasContents SmartPoster Strict poster

-- -- the value of a payload

-- RTD URI 1.0: a reserved code is read as 0
abbrev pub plain_code : ℕ → ℕ
plain_code code = if nat_lt 0x23 code then 0 else code

-- RTD URI 1.0: the payload of a URI with a reserved code read as 0
abbrev pub plain_payload : List ℕ → List ℕ
plain_payload [] = []
plain_payload (code ∷ rest) = plain_code code ∷ rest

-- RTD URI 1.0: the record of a URI with a reserved code read as 0
abbrev pub plain : Item → Item
plain i = record i {
  payload = if is_uri (kind_in SmartPoster i.tnf i.kind) then plain_payload i.payload
      else i.payload;
}

-- RTD Smart Poster 1.0: the payload is the message, but for reserved codes
abbrev pub StandsForPoster : Profile → List ℕ → List Item → Type 0
StandsForPoster profile payload items =
    (runs : List Run) × (read : List Item) × SpellsBy profile runs read payload
    × (items ≡ map plain read)

-- NDEF 1.0: the payload that is written is the canonical spelling
abbrev pub WritesPoster : List Item → List ℕ → Type 0
WritesPoster items payload = payload ≡ canonical items

-- ---- new posters

-- RTD Smart Poster 1.0: only the URI is missing
pub record LacksUri (items : List Item) (index : ℕ) : Type 0 where
  pub end : index ≡ length items
  pub before : AreInOrder SmartPoster items index
  pub uri : Lack (IsOfKind SmartPoster kinds.Uri) items

-- a poster of the message; or the message back, with the first record that is wrong, or the number
-- of records
abbrev pub MakesPoster : List Item → Result (List Item) NotPoster → Type 0
MakesPoster items (Ok poster) = (poster ≡ items) × HasContents SmartPoster Strict items
MakesPoster items (Err fault) = (fault.message ≡ items)
    × (IsFirstWrong SmartPoster items fault.index ⊎ LacksUri items fault.index)

-- ---- readers

-- RTD Smart Poster 1.0: the value of the first record of the kind, if there is one
abbrev pub Says : {V : Type 0} → Kind → (Item → V) → List Item → Option V → Type 0
Says kind value items result = (i : Option Item) × IsFirstOf (IsOfKind SmartPoster kind) items i
    × (result ≡ option_map value i)

-- RTD Smart Poster 1.0, recommended action record: do, save for later, open for editing
abbrev pub action_of : ℕ → Action
action_of octet =
    if octet == 0 then Do else (if octet == 1 then Save else (if octet == 2 then Open else Other octet))

-- RTD Smart Poster 1.0, recommended action record: the action of a record
abbrev pub action_in : Item → Action
action_in i = action_of (slice_index i.payload 0)

-- RTD Smart Poster 1.0, size record: four octets, most significant first
abbrev pub size_in : Item → ℕ
size_in i = from_be_bytes w32 i.payload

-- RTD Smart Poster 1.0, URI record: the value of its payload
abbrev pub IsUriOf : List Item → List ℕ → Type 0
IsUriOf items uri =
    (i : Item) × IsFirstOf (IsOfKind SmartPoster kinds.Uri) items (Some i)
    × StandsForUri i.payload uri

-- the kind is that of a text
abbrev pub is_text : Kind → Bool
is_text kinds.Text = true
is_text _ = false

-- RTD Smart Poster 1.0, title records: the texts, in order
abbrev pub titles : List Item → List Item
titles = filter (λ i. is_text (kind_in SmartPoster i.tnf i.kind))

-- the records' payloads have the texts as their values, one after another
abbrev pub StandForTexts : List Item → List TextValue → Type 0
StandForTexts [] [] = ⊤
StandForTexts (i ∷ items) (v ∷ values) = StandsForText i.payload v × StandForTexts items values
StandForTexts _ _ = ⊥
