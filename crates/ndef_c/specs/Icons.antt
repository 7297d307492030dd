-- The results for the icons of a smart poster.
use Rattle.std.specs.Prelude.{◌≡◌, ℕ, ◌+◌, Bool, true, false, List, length, filter, slice_get, Some}
use Rattle.ndef_format.specs.Messages.{Item}
use Rattle.ndef_format.specs.declared.profile.Profile.TheVariants.{Standard}
use Rattle.ndef_format.specs.declared.tnf.Tnf.{Tnf}
use Rattle.ndef_format.specs.declared.tnf.Tnf.TheVariants.{Media}
use Rattle.ndef_c.specs.Arrays.{EachAt, GivesMany}
use Rattle.ndef_c.specs.Nested.{LiesAfter}
use Rattle.ndef_c.specs.Posters.{HasPosterRecords}
use Rattle.ndef_c.specs.Titles.{IsPosterPayload}
use Rattle.ndef_c.specs.Walks.{Lies}
use Rattle.ndef_c.specs.declared.icons.NdefIcon.{NdefIcon}

-- NDEF 1.0, TNF: the type of a record is a media type
abbrev pub is_media : Tnf → Bool
is_media Media = true
is_media _ = false

-- RTD Smart Poster 1.0, icon record: a record of a media type
abbrev pub is_icon : Item → Bool
is_icon i = is_media i.tnf

-- RTD Smart Poster 1.0, icon records: those of a poster, in order
abbrev pub icons : List Item → List Item
icons = filter is_icon

-- RTD Smart Poster 1.0, icon record: the media type and the image of the icon with the index lie
-- there, and between them its id
pub record IsIconAt (payload : List ℕ) (items : List Item) (index : ℕ) (out : NdefIcon) : Type 0 where
  pub icon : Item
  pub is : slice_get (icons items) index ≡ Some icon
  pub media_type : Lies payload out.media_type.at out.media_type.length icon.kind
  pub image : Lies payload out.octets.at out.octets.length icon.payload
  pub place : LiesAfter (λ before. length (icons before) ≡ index) payload icon out.octets.at
  pub type_place : out.media_type.at + (out.media_type.length + length icon.id) ≡ out.octets.at

-- RTD Smart Poster 1.0, icon records: where each icon of a poster lies is given, in their order
pub record GivesIcons (payload : List ℕ) (before after : List NdefIcon) (count status : ℕ) : Type 0 where
  pub poster : IsPosterPayload payload
  pub items : List Item
  pub records : HasPosterRecords Standard items payload
  pub gives : GivesMany (EachAt (IsIconAt payload items) 0) (length (icons items)) before after count status
