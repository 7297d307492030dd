-- The results for the titles and for the media type of a smart poster.
use Rattle.std.specs.Prelude.{◌≡◌, ℕ, ◌+◌, ◌^◌, ◌<◌, true, List, length, slice_get, slice_index, Some}
use Rattle.std.specs.Str.{str_eq_ignore_ascii_case}
use Rattle.ndef_format.specs.Messages.{Item}
use Rattle.ndef_format.specs.Nested.{IsNest}
use Rattle.ndef_format.specs.Records.{bit}
use Rattle.ndef_format.specs.Texts.{is_wide}
use Rattle.ndef_format.specs.declared.kind.Kind.TheVariants as kinds
use Rattle.ndef_format.specs.declared.profile.Profile.TheVariants.{Standard}
use Rattle.ndef_format.specs.declared.table.Table.TheVariants.{SmartPoster}
use Rattle.ndef_value.specs.declared.limits.TheConstants.{MOST_RECORDS}
use Rattle.ndef_types.specs.Contents.{IsFirstOf, IsOfKind, Lack}
use Rattle.ndef_types.specs.Posters.{titles}
use Rattle.ndef_types.specs.Values.{encoded_octets, language_octets}
use Rattle.ndef_c.specs.Arrays.{EachAt, GivesMany}
use Rattle.ndef_c.specs.Nested.{LiesAfter}
use Rattle.ndef_c.specs.Posters.{HasPosterRecords}
use Rattle.ndef_c.specs.Walks.{Lies}
use Rattle.ndef_c.specs.declared.part.NdefPart.{NdefPart}
use Rattle.ndef_c.specs.declared.text.NdefText.{NdefText}

-- RTD Smart Poster 1.0: the payload is that of a poster, as the standard reads it
pub record IsPosterPayload (payload : List ℕ) : Type 0 where
  pub in_set : IsNest SmartPoster MOST_RECORDS Standard payload
  pub short : length payload < 2 ^ 32

-- RTD Text 1.0: the places of the parts of a text, which is the value of the payload of a record at
-- the place
pub record LiesAsText (bytes payload : List ℕ) (at : ℕ) (out : NdefText) : Type 0 where
  pub language : Lies bytes out.language_at out.language_length (language_octets payload)
  pub text : Lies bytes out.text_at out.text_length (encoded_octets payload)
  pub language_place : out.language_at ≡ at + 1
  pub text_place : out.text_at ≡ out.language_at + out.language_length
  pub utf16 : out.utf16 ≡ bit (is_wide (slice_index payload 0))

-- RTD Smart Poster 1.0, title record: the title with the index lies there
abbrev pub IsTitleAt : List ℕ → List Item → ℕ → NdefText → Type 0
IsTitleAt payload items index out = (i : Item) × (slice_get (titles items) index ≡ Some i)
    × (at : ℕ) × LiesAfter (λ before. length (titles before) ≡ index) payload i at
    × LiesAsText payload i.payload at out

-- RTD Smart Poster 1.0, title records: where each title of a poster lies is given, in their order
pub record GivesTitles (payload : List ℕ) (before after : List NdefText) (count status : ℕ) : Type 0 where
  pub poster : IsPosterPayload payload
  pub items : List Item
  pub records : HasPosterRecords Standard items payload
  pub gives : GivesMany (EachAt (IsTitleAt payload items) 0) (length (titles items)) before after count status

-- RTD Smart Poster 1.0, title record: a title in the language, the case of its letters aside (RFC
-- 5646, 2.1.1)
pub record IsTitleIn (language : List ℕ) (i : Item) : Type 0 where
  pub title : IsOfKind SmartPoster kinds.Text i
  pub same : str_eq_ignore_ascii_case (language_octets i.payload) language ≡ true

-- RTD Smart Poster 1.0, title records: the first title of a poster in the language lies there
pub record FindsTitle (language payload : List ℕ) (out : NdefText) : Type 0 where
  pub poster : IsPosterPayload payload
  pub items : List Item
  pub records : HasPosterRecords Standard items payload
  pub title : Item
  pub is_first : IsFirstOf (IsTitleIn language) items (Some title)
  pub at : ℕ
  pub place : LiesAfter (Lack (IsTitleIn language)) payload title at
  pub lies : LiesAsText payload title.payload at out

-- RTD Smart Poster 1.0, type record: where that of a poster lies, of several the first
pub record FindsMediaType (payload : List ℕ) (out : NdefPart) : Type 0 where
  pub poster : IsPosterPayload payload
  pub items : List Item
  pub records : HasPosterRecords Standard items payload
  pub media : Item
  pub is_first : IsFirstOf (IsOfKind SmartPoster kinds.MediaType) items (Some media)
  pub lies : Lies payload out.at out.length media.payload
  pub place : LiesAfter (Lack (IsOfKind SmartPoster kinds.MediaType)) payload media out.at

-- RTD Smart Poster 1.0: no record of a poster has the property
pub record PosterLacks (P : Item → Type 0) (payload : List ℕ) : Type 0 where
  pub poster : IsPosterPayload payload
  pub items : List Item
  pub records : HasPosterRecords Standard items payload
  pub none : Lack P items
