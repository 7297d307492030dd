-- A record whose payload is written in place.
use Rattle.std.specs.Prelude.{◌≡◌, ℕ, List, length, None}
use Rattle.ndef_format.specs.Canonical.{HasLengths}
use Rattle.ndef_format.specs.Messages.{Item}
use Rattle.ndef_format.specs.declared.tnf.Tnf.{Tnf}
use Rattle.ndef_message.specs.declared.form.Form.TheVariants.{Short}
use Rattle.ndef_c.specs.Contents.{IsContent, content_octets}
use Rattle.ndef_c.specs.Writes.{record_octets}
use Rattle.ndef_c.specs.declared.making.Ends.{Ends}
use Rattle.ndef_c.specs.declared.making.PendingRecord.{PendingRecord}

-- NDEF 1.0, record layout: the record of these parts
abbrev pub item_with : Tnf → (kind id payload : List ℕ) → Item
item_with tnf kind id payload = record { tnf = tnf; kind = kind; id = id; payload = payload }

-- NDEF 1.0, record layout: the record
abbrev pub made_item : PendingRecord → Item
made_item m =
    record { tnf = m.tnf; kind = m.kind.now; id = m.id.now; payload = content_octets m.content }

-- a piece can hold its lengths, and that of its payload is known
pub record IsMade (m : PendingRecord) : Type 0 where
  pub content : IsContent m.content
  pub lengths : HasLengths (made_item m)
  pub bytes : m.bytes ≡ length (content_octets m.content)

-- NDEF 1.0, record layout: the octets of a record in one piece, in the short form where that can
-- hold its length
abbrev pub whole_octets : Ends → Item → List ℕ
whole_octets ends m = record_octets Short ends.first ends.last None m
