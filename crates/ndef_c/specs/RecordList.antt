-- Records that follow one another in a message that is written.
use Rattle.std.specs.Prelude.{◌≡◌, ℕ, ◌-◌, ◌<◌, ◌≤◌, ◌^◌, ◌==◌, ◌&&◌, ⊤, Bool, false, List, [], ◌∷◌, ◌++◌, length, map, None, slice_index_or}
use Rattle.std.specs.List.{All, flat_map}
use Rattle.ndef_format.specs.Canonical.{canonical, is_nil}
use Rattle.ndef_format.specs.Messages.{Item}
use Rattle.ndef_message.specs.declared.form.Form.TheVariants.{Short}
use Rattle.ndef_c.specs.PendingRecord.{IsMade, made_item}
use Rattle.ndef_c.specs.HandoverParts.{MayBeCarried, alternative_item}
use Rattle.ndef_c.specs.PosterParts.{MayBeIcon, MayBeTitle, icon_item, title_item}
use Rattle.ndef_c.specs.Buffers.{Puts}
use Rattle.ndef_c.specs.Writes.{record_octets}
use Rattle.ndef_c.specs.declared.handover_parts.NdefAlternativeWriting.{NdefAlternativeWriting}
use Rattle.ndef_c.specs.declared.out.Out.{Out}
use Rattle.ndef_c.specs.declared.poster_parts.NdefIconWriting.{NdefIconWriting}
use Rattle.ndef_c.specs.declared.poster_parts.NdefTitleWriting.{NdefTitleWriting}
use Rattle.ndef_c.specs.declared.record_list.RecordList.{RecordList}
use Rattle.ndef_c.specs.declared.record_list.RecordList.TheVariants as several
use Rattle.ndef_c.specs.declared.series_writing.Place.{Place}

-- the records
abbrev pub series_items : RecordList → List Item
series_items several.Nothing = []
series_items (several.One made) = made_item made ∷ []
series_items (several.Titles bytes titles) = map (title_item bytes.now) titles.now
series_items (several.Icons bytes icons) = map (icon_item bytes.now) icons.now
series_items (several.Alternatives bytes references alternatives) =
    map (alternative_item bytes.now references.now) alternatives.now

-- one record that is made already may be written
abbrev pub HoldsMade : RecordList → Type 0
HoldsMade (several.One made) = IsMade made
HoldsMade _ = ⊤

-- the record with the index may be written
abbrev pub MayBeIn : RecordList → (index : ℕ) → Type 0
MayBeIn several.Nothing index = ⊤
MayBeIn (several.One made) index = IsMade made
MayBeIn (several.Titles bytes titles) index =
    (t : NdefTitleWriting) → MayBeTitle bytes.now (slice_index_or titles.now index t)
MayBeIn (several.Icons bytes icons) index =
    (i : NdefIconWriting) → MayBeIcon bytes.now (slice_index_or icons.now index i)
MayBeIn (several.Alternatives bytes references alternatives) index = (a : NdefAlternativeWriting) →
    MayBeCarried bytes.now references.now (slice_index_or alternatives.now index a)

-- each of the records may be written
abbrev pub IsSeries : RecordList → Type 0
IsSeries s = (index : ℕ) → index < length (series_items s) → MayBeIn s index

-- these are the records, and each of them may be written
pub record AreSeries (items : List Item) (s : RecordList) : Type 0 where
  pub holds : HoldsMade s
  pub may : IsSeries s
  pub are : series_items s ≡ items

-- the records of several series
abbrev pub all_items : List RecordList → List Item
all_items = flat_map series_items

-- NDEF 1.0, MB and ME: the octets of records of a message of which `left` are left, these and those
-- after them
abbrev pub left_octets : (first : Bool) (left : ℕ) → List Item → List ℕ
left_octets first left [] = []
left_octets first left (m ∷ ms) =
    record_octets Short first (left == 1) None m ++ left_octets false (left - 1) ms

-- the position of the records after these
abbrev pub place_after : Place → List Item → Place
place_after p items = record { left = p.left - length items; first = p.first && is_nil items }

-- the records are written at their place, and the other one is after them
pub record IsWritten (p : Place) (items : List Item) (old new : Out) (q : Place) : Type 0 where
  pub put : Puts old (left_octets p.first p.left items) new
  pub next : q ≡ place_after p items

-- RTD Smart Poster 1.0 and Connection Handover 1.2: after these octets a message of these records,
-- each of which may be written, is no longer than a payload
pub record MayBeMessage (front : List ℕ) (several : List RecordList) : Type 0 where
  pub each : All IsSeries several
  pub few : length (all_items several) ≤ 65535
  pub fits : length (front ++ canonical (all_items several)) < 2 ^ 32
