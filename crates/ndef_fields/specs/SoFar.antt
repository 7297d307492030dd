-- The fields of a front of a message are those of the definition on which the reasons of refusals
-- rest.
use Rattle.std.specs.Prelude.{◌≡◌, ℕ, List, [], ◌++◌}
use Rattle.ndef_format.specs.Records.{Piece, Run}
use Rattle.ndef_format.specs.Limits.{LimitValues}
use Rattle.ndef_format.specs.Messages.{all_pieces}
use Rattle.ndef_format.specs.Positions.{Field, AtEnd, InHead, InId, InPayload, InType, IsAt, octets_so_far}
use Rattle.ndef_fields.specs.Fronts.{AreFrontParts, front_parts}
use Rattle.ndef_fields.specs.Messages.{head_parts}
use Rattle.ndef_fields.specs.Parts.{Part}

-- NDEF 1.0, record layout: the parts of a piece so far, if the next octet is in
-- this field; `payload` are those of its payload
abbrev pub parts_so_far : Field → (payload : List Part) → List Part
parts_so_far (InHead front) payload = front_parts 0 front []
parts_so_far (InType head name) payload = head_parts 0 head name [] []
parts_so_far (InId head name id) payload = head_parts 0 head name id []
parts_so_far (InPayload head name id content) payload = head_parts 0 head name id payload
parts_so_far AtEnd payload = []

-- NDEF 1.0, messages: the parts are those of these pieces, and of what has come of one more
pub record AreSoFar (bytes : List ℕ) (parts : List Part) (front : AreFrontParts bytes parts)
    (before : List Piece) (field : Field) : Type 0 where
  pub pieces_are : front.whole.pieces ≡ before
  pub rest_is : front.rest ≡ octets_so_far field
  pub parts_are : front_parts 0 front.rest front.payload ≡ parts_so_far field front.payload

-- The parts of a front of a message are those of the pieces before the field of the next byte, and
-- of what has come of the piece in which this field is.
abbrev pub FrontsAreSoFar : Type 0
FrontsAreSoFar =
    (limits : LimitValues) (bytes : List ℕ) (parts : List Part) (front : AreFrontParts bytes parts)
    (runs : List Run) (begun : List Piece) (field : Field) → IsAt limits bytes runs begun field
    → AreSoFar bytes parts front (all_pieces runs ++ begun) field
