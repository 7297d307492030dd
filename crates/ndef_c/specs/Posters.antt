-- The result for the payload of a smart poster.
use Rattle.std.specs.Prelude.{ℕ, ◌^◌, ◌<◌, List, length, Option, Some, option_map}
use Rattle.ndef_format.specs.Messages.{Item}
use Rattle.ndef_format.specs.Records.{Run}
use Rattle.ndef_format.specs.declared.profile.Profile.{Profile}
use Rattle.ndef_value.specs.declared.limits.TheConstants.{MOST_RECORDS}
use Rattle.ndef_format.specs.declared.kind.Kind.TheVariants as kinds
use Rattle.ndef_format.specs.Nested.{IsNest, IsNestedBy}
use Rattle.ndef_format.specs.declared.table.Table.TheVariants.{SmartPoster}
use Rattle.ndef_types.specs.Contents.{IsFirstOf, IsOfKind, Lack, StandsForMessage}
use Rattle.ndef_types.specs.Posters.{Says, action_in, action_of, size_in}
use Rattle.ndef_c.specs.Nested.{LiesAfter, TellsNumber}
use Rattle.ndef_c.specs.Walks.{Lies}
use Rattle.ndef_c.specs.declared.poster.NdefPoster.{NdefPoster}

-- RTD Smart Poster 1.0: the payload is a poster of these records
abbrev pub HasPosterRecords : Profile → List Item → List ℕ → Type 0
HasPosterRecords profile items payload = (runs : List Run)
    × IsNestedBy SmartPoster MOST_RECORDS profile runs items payload

-- RTD Smart Poster 1.0: the value of the first action record of a poster, as a number
abbrev pub TellsAction : List Item → (has number : ℕ) → Type 0
TellsAction items has number =
    (a : Option ℕ) × Says kinds.Action action_in items (option_map action_of a)
    × TellsNumber a has number

-- RTD Smart Poster 1.0: the value of the first size record of a poster
abbrev pub TellsSize : List Item → (has number : ℕ) → Type 0
TellsSize items has number =
    (n : Option ℕ) × Says kinds.Size size_in items n × TellsNumber n has number

-- RTD Smart Poster 1.0: the payload is a poster: where the payload of its URI record lies, its
-- action and its size
pub record IsPosterAt (profile : Profile) (payload : List ℕ) (out : NdefPoster) : Type 0 where
  pub in_set : IsNest SmartPoster MOST_RECORDS profile payload
  pub short : length payload < 2 ^ 32
  pub items : List Item
  pub message : StandsForMessage profile payload (Some items)
  pub uri : Item
  pub is_uri : IsFirstOf (IsOfKind SmartPoster kinds.Uri) items (Some uri)
  pub lies : Lies payload out.uri_at out.uri_length uri.payload
  pub place : LiesAfter (Lack (IsOfKind SmartPoster kinds.Uri)) payload uri out.uri_at
  pub action : TellsAction items out.has_action out.action
  pub size : TellsSize items out.has_size out.size
