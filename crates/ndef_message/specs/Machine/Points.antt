-- The points between the octets of a message, as a checker counts them.
use Rattle.std.specs.Prelude.{◌≡◌, ◌<◌, ◌⊎◌, ℕ, true, false, List, [], ◌++◌, length, Option, Some, None, unwrap_or}
use Rattle.ndef_format.specs.Messages.{Item, SpellsPieces}
use Rattle.ndef_format.specs.Records.{Piece, HeadFields, octets, AreOctets}
use Rattle.ndef_format.specs.Limits.{LimitValues}
use Rattle.ndef_format.specs.declared.reason.Reason.{Reason}
use Rattle.ndef_format.specs.Reasons.{Conditions}
use Rattle.ndef_format.specs.Positions.{MayOccur, IsOpen, Field}
use Rattle.ndef_piece.specs.Walk.{Before, start, spot, Walked}
use Rattle.ndef_format.specs.Positions as fields
use Rattle.ndef_message.specs.Opened.{Opened, open_record}
use Rattle.ndef_format.specs.Refusals.{IsReasonOf}

-- the field of the next octet, with the state before its piece
pub data Point : Type 0 where
  InHead : Before → List ℕ → Point
  InType : Before → HeadFields → List ℕ → Point
  InId : Before → HeadFields → List ℕ → List ℕ → Point
  InPayload : Before → HeadFields → List ℕ → List ℕ → List ℕ → Point
  AtEnd : Before → Point

-- before the first octet
abbrev pub start_point : LimitValues → Point
start_point limits = InHead (start limits) []

-- the state before the piece of the point
abbrev pub before : Point → Before
before (InHead c xs) = c
before (InType c f kind) = c
before (InId c f kind id) = c
before (InPayload c f kind id payload) = c
before (AtEnd c) = c

-- the field of the next octet
abbrev pub field_of : Point → Field
field_of (InHead c xs) = fields.InHead xs
field_of (InType c f kind) = fields.InType f kind
field_of (InId c f kind id) = fields.InId f kind id
field_of (InPayload c f kind id payload) = fields.InPayload f kind id payload
field_of (AtEnd c) = fields.AtEnd

-- NDEF 1.0, record layout: the octets of a piece, as far as it has come
abbrev pub part_octets : HeadFields → (kind id payload : List ℕ) → List ℕ
part_octets f kind id payload = octets f ++ (kind ++ (id ++ payload))

-- the octets of that piece so far
abbrev pub octets_at : Point → List ℕ
octets_at (InHead c xs) = xs
octets_at (InType c f kind) = part_octets f kind [] []
octets_at (InId c f kind id) = part_octets f kind id []
octets_at (InPayload c f kind id payload) = part_octets f kind id payload
octets_at (AtEnd c) = []

-- NDEF 1.0, ID_LENGTH: the id of a piece, where it has one
abbrev pub id_of : Option ℕ → List ℕ → Option (List ℕ)
id_of None id = None
id_of (Some n) id = Some id

-- NDEF 1.0, record layout: the piece with this head and these parts
abbrev pub piece : HeadFields → (kind id payload : List ℕ) → Piece
piece f kind id payload =
    record {
      first = f.first;
      last = f.last;
      chunked = f.chunked;
      tnf = f.tnf;
      kind = kind;
      id = id_of f.id_length id;
      payload = payload;
    }

-- NDEF 1.0, record layout: the octets are a front of the piece, which may occur there
pub record IsPartAt (limits : LimitValues) (c : Before) (f : HeadFields) (kind id payload : List ℕ) : Type 0 where
  pub goes_on : c.over ≡ false
  pub stands : MayOccur (spot limits.profile c) f
  pub kind_octets : AreOctets kind
  pub id_octets : AreOctets id
  pub payload_octets : AreOctets payload

-- another octet of that field is to come
abbrev pub IsProperAt : LimitValues → Point → Type 0
IsProperAt limits (InHead c xs) = (c.over ≡ false) × IsOpen (spot limits.profile c) xs
IsProperAt limits (InType c f kind) = IsPartAt limits c f kind [] [] × (length kind < f.kind_length)
IsProperAt limits (InId c f kind id) = IsPartAt limits c f kind id [] × (length kind ≡ f.kind_length)
    × (length id < unwrap_or f.id_length 0)
IsProperAt limits (InPayload c f kind id payload) =
    IsPartAt limits c f kind id payload × (length kind ≡ f.kind_length) × (length id ≡ unwrap_or f.id_length 0)
    × (length payload < f.payload_length)
IsProperAt limits (AtEnd c) = c.over ≡ true

-- The octets are whole pieces, which end these records, and a proper front of one more, or the end of the message.
pub record IsAtPoint (limits : LimitValues) (bytes : List ℕ) (given : List Item) (point : Point) : Type 0 where
  pub pieces : List Piece
  pub done : List ℕ
  pub walked : Walked limits (start limits) pieces given (before point)
  pub spelled : SpellsPieces pieces done
  pub split : bytes ≡ done ++ octets_at point
  pub proper : IsProperAt limits point

-- why an octet there is refused
abbrev pub IsReasonAt : Conditions → LimitValues → Point → ℕ → Reason → Type 0
IsReasonAt holds limits point b reason = IsReasonOf holds limits (spot limits.profile (before point))
    (before point).begun (field_of point) b reason

-- what has come of the record
abbrev pub opened_at : Point → Opened
opened_at point = open_record (before point).begun (field_of point)

-- no record is begun
abbrev pub IsBetweenRecords : Point → Type 0
IsBetweenRecords point = (c : Before) × (c.begun ≡ None) × ((point ≡ InHead c []) ⊎ (point ≡ AtEnd c))
