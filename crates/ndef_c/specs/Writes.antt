-- The octets that are written for a record.
use Rattle.std.specs.Prelude.{◌≡◌, ℕ, ◌/◌, ◌%◌, ◌≤◌, ◌==◌, nat_le, Bool, true, false, List, [], ◌∷◌, ◌++◌, length, Option, Some, None, if◌then◌else◌}
use Rattle.std.specs.List.{flat_map}
use Rattle.ndef_format.specs.Messages.{Item, IsShaped}
use Rattle.ndef_format.specs.Records.{Piece, octets, pieces, tnf_of}
use Rattle.ndef_format.specs.Canonical.{HasLengths, is_nil}
use Rattle.ndef_piece.specs.Heads.{written_fields}
use Rattle.ndef_piece.specs.declared.head.Head.{Head}
use Rattle.ndef_message.specs.declared.form.Form.{Form}
use Rattle.ndef_message.specs.declared.form.Form.TheVariants.{Short, Long}
use Rattle.ndef_message.specs.Cut.{cut_run}
use Rattle.ndef_message.specs.Written.{written_piece, cut_octets}
use Rattle.ndef_c.specs.declared.writing.NdefWriting.{NdefWriting}
use Rattle.ndef_c.specs.declared.writing.Parts.{Parts}
use Rattle.ndef_c.specs.declared.writing.Placement.{Placement}

-- NDEF 1.0, record layout and chunked payloads: the octets of a record in the pieces of its cut
abbrev pub record_octets : Form → (first last : Bool) → Option ℕ → Item → List ℕ
record_octets form first last size m =
    flat_map (written_piece form) (pieces (cut_run first last size m))

-- the record of these parts
abbrev pub item_of : Parts → Item
item_of p = record { tnf = p.tnf; kind = p.kind.now; id = p.id.now; payload = p.payload.now }

-- NDEF 1.0, record layout: the octets of a head, and the rest after it in its piece
abbrev pub octets_of_piece : Head → (kind id part : List ℕ) → List ℕ
octets_of_piece head kind id part = octets (written_fields head) ++ (kind ++ (id ++ part))

-- the octets of a record that is written so
abbrev pub octets_by : Placement → Item → List ℕ
octets_by way m = record_octets way.form way.first way.last (Some way.size) m

-- NDEF 1.0, chunked payloads: in the octets of a record that is written so, its last piece begins
-- at this place
pub record LastBegins (form : Form) (first last : Bool) (size : Option ℕ) (m : Item) (at : ℕ) : Type 0 where
  pub done : List Piece
  pub piece : Piece
  pub pieces_are : pieces (cut_run first last size m) ≡ done ++ piece ∷ []
  pub at_is : at ≡ length (flat_map (written_piece form) done)

-- -- the values that numbers select

-- 4 selects the long form
abbrev pub form_of : NdefWriting → Form
form_of how = if nat_le 4 how.flags then Long else Short

-- 1 selects the first record of a message
abbrev pub is_first : NdefWriting → Bool
is_first how = how.flags % 2 == 1

-- 2 selects the last
abbrev pub is_last : NdefWriting → Bool
is_last how = how.flags / 2 % 2 == 1

-- the payload bytes of a piece; 0 selects one piece
abbrev pub size_of : NdefWriting → Option ℕ
size_of how = if how.chunk == 0 then None else Some how.chunk

-- the record that is requested
abbrev pub asked : NdefWriting → (kind id payload : List ℕ) → Item
asked how kind id payload = record { tnf = tnf_of how.tnf; kind = kind; id = id; payload = payload }

-- its octets
abbrev pub asked_octets : NdefWriting → Item → List ℕ
asked_octets how m = record_octets (form_of how) (is_first how) (is_last how) (size_of how) m

-- no unknown flag is set, and it is a record
pub record MayBeWritten (how : NdefWriting) (m : Item) : Type 0 where
  pub flags : how.flags ≤ 7
  pub tnf : how.tnf ≤ 5
  pub shaped : IsShaped m
  pub lengths : HasLengths m

-- ---- law

-- the records one after another, the last of them marked as such
abbrev pub one_by_one : Form → (first : Bool) → Option ℕ → List Item → List ℕ
one_by_one form first size [] = []
one_by_one form first size (m ∷ ms) =
    record_octets form first (is_nil ms) size m ++ one_by_one form false size ms

-- Records that are written one after another are the bytes of their message.
abbrev pub RecordsMakeAMessage : Type 0
RecordsMakeAMessage = (form : Form) (size : Option ℕ) (m : List Item)
    → one_by_one form true size m ≡ cut_octets form size m
