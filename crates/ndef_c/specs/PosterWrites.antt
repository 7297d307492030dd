-- The smart posters that may be written, and their octets.
use Rattle.std.specs.Prelude.{◌≡◌, ℕ, ◌<◌, ◌≤◌, ◌^◌, ◌==◌, ◌%◌, ◌⊎◌, List, [], ◌∷◌, ◌++◌, length, map, IsUtf8, if◌then◌else◌}
use Rattle.std.specs.Int.{w32, to_be_bytes}
use Rattle.std.specs.List.{All}
use Rattle.ndef_format.specs.Canonical.{canonical}
use Rattle.ndef_format.specs.Messages.{Item}
use Rattle.ndef_format.specs.Records.{AreOctets}
use Rattle.ndef_format.specs.declared.kind.Kind.{Kind}
use Rattle.ndef_format.specs.declared.kind.Kind.TheVariants as kinds
use Rattle.ndef_types.specs.Posters.{IsPosterValue, WritesPoster}
use Rattle.ndef_types.specs.Values.{WritesUri}
use Rattle.ndef_c.specs.AlternativeWrites.{IsPartWithin, part_of}
use Rattle.ndef_c.specs.Appending.{well_known}
use Rattle.ndef_c.specs.PendingRecord.{IsMade, made_item}
use Rattle.ndef_c.specs.Payloads.{GivesFor}
use Rattle.ndef_c.specs.PosterParts.{MayBeIcon, MayBeTitle, icon_item, title_item}
use Rattle.ndef_c.specs.RecordList.{AreSeries}
use Rattle.ndef_c.specs.declared.poster_parts.NdefIconWriting.{NdefIconWriting}
use Rattle.ndef_c.specs.declared.poster_parts.NdefTitleWriting.{NdefTitleWriting}
use Rattle.ndef_c.specs.declared.poster_writing.NdefPosterWriting.{NdefPosterWriting}
use Rattle.ndef_c.specs.declared.poster_writing.Numbers.{Numbers}
use Rattle.ndef_c.specs.declared.poster_writing.Poster.{Poster}
use Rattle.ndef_c.specs.declared.poster_writing.PosterProperties.{PosterProperties}

-- RTD Smart Poster 1.0: the contents of a poster, as parts of some bytes
pub record PosterAsked : Type 0 where
  pub bytes : List ℕ
  pub how : NdefPosterWriting
  pub titles : List NdefTitleWriting
  pub icons : List NdefIconWriting

abbrev pub poster_asked : List ℕ → NdefPosterWriting → List NdefTitleWriting → List NdefIconWriting
    → PosterAsked
poster_asked bytes how titles icons =
    record { bytes = bytes; how = how; titles = titles; icons = icons }

-- RTD URI 1.0: the URI
abbrev pub uri_of : PosterAsked → List ℕ
uri_of a = part_of a.bytes a.how.uri

-- RTD Smart Poster 1.0, type record: the media type of the object to which the URI refers
abbrev pub media_of : PosterAsked → List ℕ
media_of a = part_of a.bytes a.how.media_type

-- RTD Smart Poster 1.0, recommended action record: 1 requests one, which has one octet, and 0
-- none
abbrev pub MayBeAction : NdefPosterWriting → Type 0
MayBeAction how = (how.has_action ≡ 0) ⊎ ((how.has_action ≡ 1) × (how.action < 256))

-- RTD Smart Poster 1.0, type record: a part of the bytes in UTF-8, which fits in a payload
pub record IsMedia (a : PosterAsked) : Type 0 where
  pub within : IsPartWithin (length a.bytes) a.how.media_type
  pub utf8 : IsUtf8 (media_of a)
  pub fits : length (media_of a) < 2 ^ 32

-- RTD Smart Poster 1.0, type record: 1 requests one, and 0 none
abbrev pub MayBeMedia : PosterAsked → Type 0
MayBeMedia a = (a.how.has_media_type ≡ 0) ⊎ ((a.how.has_media_type ≡ 1) × IsMedia a)

-- RTD URI 1.0: a part of the bytes in UTF-8, and the payload that WritesUri defines, which is no
-- longer than a payload
pub record MayBeUri (a : PosterAsked) (payload : List ℕ) : Type 0 where
  pub within : IsPartWithin (length a.bytes) a.how.uri
  pub utf8 : IsUtf8 (uri_of a)
  pub is : WritesUri (uri_of a) payload
  pub short : length payload < 2 ^ 32

-- RTD Smart Poster 1.0: the record of a kind and a payload, if 1 requests it
abbrev pub asked_for : (has : ℕ) → Kind → List ℕ → List Item
asked_for has kind payload = if has == 1 then well_known kind [] payload ∷ [] else []

-- RTD Smart Poster 1.0: the records of a poster: its URI, its titles, its action, its size, its
-- media type, its icons
abbrev pub poster_items : (uri_payload : List ℕ) → PosterAsked → List Item
poster_items uri_payload a =
    well_known kinds.Uri [] uri_payload ∷ (map (title_item a.bytes) a.titles
    ++ (asked_for a.how.has_action kinds.Action (a.how.action ∷ [])
    ++ (asked_for a.how.has_size kinds.Size (to_be_bytes w32 a.how.size)
    ++ (asked_for a.how.has_media_type kinds.MediaType (media_of a)
    ++ map (icon_item a.bytes) a.icons))))

-- RTD Smart Poster 1.0: the properties of a poster apart from its titles and icons may be written
pub record MayBeSaid (a : PosterAsked) : Type 0 where
  pub payload : List ℕ
  pub uri : MayBeUri a payload
  pub action : MayBeAction a.how
  pub size : a.how.has_size ≤ 1
  pub media : MayBeMedia a

-- RTD Smart Poster 1.0: a poster of these parts may be written: no more records than a message has,
-- and no more octets than a payload
pub record MayBePoster (a : PosterAsked) : Type 0 where
  pub said : MayBeSaid a
  pub titles : All (MayBeTitle a.bytes) a.titles
  pub icons : All (MayBeIcon a.bytes) a.icons
  pub few : length (poster_items said.payload a) ≤ 65535
  pub fits : length (canonical (poster_items said.payload a)) < 2 ^ 32

-- RTD Smart Poster 1.0: the octets that are written for that poster are given
pub record GivesPoster (a : PosterAsked) (before after : List ℕ) (count status : ℕ) : Type 0 where
  pub may : MayBePoster a
  pub gives : GivesFor WritesPoster (poster_items may.said.payload a) before after count status

-- RTD Smart Poster 1.0: the records of a poster that may be written are those of a poster for a
-- strict reader
abbrev pub WrittenPostersAreRead : Type 0
WrittenPostersAreRead = (a : PosterAsked) (may : MayBePoster a) → AreOctets a.bytes
    → IsPosterValue (poster_items may.said.payload a)

-- ---- step by step

-- a record of these octets may be requested: 1 requests one, and 0 none
abbrev pub MayBeAsked : (has : ℕ) → List ℕ → Type 0
MayBeAsked has octets = (has ≡ 0) ⊎ ((has ≡ 1) × (length octets < 2 ^ 32))

-- RTD Smart Poster 1.0: the contents of a poster
abbrev pub asked_by : Poster → PosterAsked
asked_by p = poster_asked p.bytes.now p.how.now p.titles.now p.icons.now

-- RTD Smart Poster 1.0, action and size records: the octets of the numbers
pub record AreNumbers (how : NdefPosterWriting) (n : Numbers) : Type 0 where
  pub action : n.action ≡ (how.action % 256) ∷ []
  pub size : n.size ≡ to_be_bytes w32 how.size

-- RTD Smart Poster 1.0: the records of the properties of a poster apart from its titles and icons
pub record AreSaid (a : PosterAsked) (s : PosterProperties) : Type 0 where
  pub said : MayBeSaid a
  pub uri : IsMade s.uri
  pub uri_is : made_item s.uri ≡ well_known kinds.Uri [] said.payload
  pub action : AreSeries (asked_for a.how.has_action kinds.Action (a.how.action ∷ [])) s.action
  pub size : AreSeries (asked_for a.how.has_size kinds.Size (to_be_bytes w32 a.how.size)) s.size
  pub media : AreSeries (asked_for a.how.has_media_type kinds.MediaType (media_of a)) s.media
