-- The parts of a smart poster, as parts of some bytes.
use Rattle.std.specs.Prelude.{◌≡◌, ℕ, ◌<◌, ◌≤◌, ◌^◌, List, [], length}
use Rattle.ndef_format.specs.Messages.{Item}
use Rattle.ndef_format.specs.declared.kind.Kind.TheVariants as kinds
use Rattle.ndef_format.specs.declared.tnf.Tnf.TheVariants.{Media}
use Rattle.ndef_types.specs.Values.{WritesUri}
use Rattle.ndef_c.specs.AlternativeWrites.{IsPartWithin, part_of}
use Rattle.ndef_c.specs.Appending.{asked_of, text_record, well_known}
use Rattle.ndef_c.specs.PendingRecord.{item_with}
use Rattle.ndef_c.specs.Texts.{MayBeText}
use Rattle.ndef_c.specs.declared.poster_parts.NdefIconWriting.{NdefIconWriting}
use Rattle.ndef_c.specs.declared.poster_parts.NdefTitleWriting.{NdefTitleWriting}

-- RTD URI 1.0: the record of the URI, as WritesUri defines it
pub record IsUriItem (uri : List ℕ) (i : Item) : Type 0 where
  pub payload : List ℕ
  pub is : WritesUri uri payload
  pub short : length payload < 2 ^ 32
  pub item : i ≡ well_known kinds.Uri [] payload

-- RTD Smart Poster 1.0, title record: parts of the bytes that are a text that may be written
pub record MayBeTitle (bytes : List ℕ) (t : NdefTitleWriting) : Type 0 where
  pub language : IsPartWithin (length bytes) t.language
  pub text : IsPartWithin (length bytes) t.text
  pub may : MayBeText t.utf16 (part_of bytes t.language) (part_of bytes t.text)

-- RTD Smart Poster 1.0, title record: the text of these parts
abbrev pub title_item : List ℕ → NdefTitleWriting → Item
title_item bytes t =
    text_record [] (asked_of t.utf16 (part_of bytes t.language) (part_of bytes t.text))

-- RTD Smart Poster 1.0, icon record: parts of the bytes that are the type and the payload of a
-- record
pub record MayBeIcon (bytes : List ℕ) (i : NdefIconWriting) : Type 0 where
  pub media_type : IsPartWithin (length bytes) i.media_type
  pub octets : IsPartWithin (length bytes) i.octets
  pub some : 1 ≤ length (part_of bytes i.media_type)
  pub few : length (part_of bytes i.media_type) < 256
  pub fits : length (part_of bytes i.octets) < 2 ^ 32

-- RTD Smart Poster 1.0, icon record: the image has the media type as its type
abbrev pub icon_item : List ℕ → NdefIconWriting → Item
icon_item bytes i = item_with Media (part_of bytes i.media_type) [] (part_of bytes i.octets)
