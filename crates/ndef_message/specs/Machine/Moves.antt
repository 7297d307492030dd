-- From one point of a message to the next, octets after octets.
use Rattle.std.specs.Prelude.{◌≡◌, ◌+◌, ◌≤◌, ℕ, nat_lt, List, [], ◌++◌, length, unwrap_or, ◌⊎◌, if◌then◌else◌}
use Rattle.ndef_format.specs.Messages.{Item}
use Rattle.ndef_format.specs.Records.{HeadFields, octets}
use Rattle.ndef_format.specs.Limits.{LimitValues}
use Rattle.ndef_format.specs.Positions.{MayOccur}
use Rattle.ndef_piece.specs.Walk.{Before, spot, ending_record, after}
use Rattle.ndef_message.specs.Machine.Points.{Point, InHead, InType, InId, InPayload, AtEnd, piece}

-- the point where a piece begins, if one does
abbrev pub point_after : Before → Point
point_after c = if c.over then AtEnd c else InHead c []

-- the records ended, and the next point, where the head and these parts_with of a piece have come
abbrev pub given_next : LimitValues → List Item → Before → HeadFields → (kind id payload : List ℕ) → List Item
given_next limits given c f kind id payload =
    if nat_lt (length kind) f.kind_length then given
    else (if nat_lt (length id) (unwrap_or f.id_length 0) then given
    else (if nat_lt (length payload) f.payload_length then given else given
    ++ ending_record c (piece f kind id payload)))

-- NDEF 1.0, record layout: the point after these parts_with of a piece
abbrev pub point_next : LimitValues → Before → HeadFields → (kind id payload : List ℕ) → Point
point_next limits c f kind id payload =
    if nat_lt (length kind) f.kind_length then InType c f kind
    else (if nat_lt (length id) (unwrap_or f.id_length 0) then InId c f kind id
    else (if nat_lt (length payload) f.payload_length then InPayload c f kind id payload
    else point_after (after limits c (piece f kind id payload))))

-- NDEF 1.0, record layout: the head of a piece, and the octets of TYPE, ID and PAYLOAD so far
pub record Parts : Type 0 where
  pub fields : HeadFields
  pub kind : List ℕ
  pub id : List ℕ
  pub payload : List ℕ

abbrev pub parts_with : HeadFields → (kind id payload : List ℕ) → Parts
parts_with f kind id payload = record { fields = f; kind = kind; id = id; payload = payload }

-- these are the records ended and the point then
abbrev pub GoesTo : LimitValues → List Item → Before → Parts → List Item → Point → Type 0
GoesTo limits given c p given' point' = (given' ≡ given_next limits given c p.fields p.kind p.id p.payload)
    × (point' ≡ point_next limits c p.fields p.kind p.id p.payload)

-- the point after these octets more of its field
abbrev pub point_with : Point → List ℕ → Point
point_with (InHead c xs) t = InHead c (xs ++ t)
point_with (InType c f kind) t = InType c f (kind ++ t)
point_with (InId c f kind id) t = InId c f kind (id ++ t)
point_with (InPayload c f kind id payload) t = InPayload c f kind id (payload ++ t)
point_with (AtEnd c) t = AtEnd c

-- NDEF 1.0, record layout: the records ended and the point, after these octets of a field
abbrev pub Moves : LimitValues → List Item → Point → List ℕ → List Item → Point → Type 0
Moves limits given (InHead c xs) t given' point' =
    ((given' ≡ given) × (point' ≡ InHead c (xs ++ t)))
    ⊎ ((f : HeadFields) × MayOccur (spot limits.profile c) f × (octets f ≡ xs ++ t)
    × GoesTo limits given c (parts_with f [] [] []) given' point')
Moves limits given (InType c f kind) t given' point' = (length kind + length t ≤ f.kind_length)
    × GoesTo limits given c (parts_with f (kind ++ t) [] []) given' point'
Moves limits given (InId c f kind id) t given' point' = (length id + length t ≤ unwrap_or f.id_length 0)
    × GoesTo limits given c (parts_with f kind (id ++ t) []) given' point'
Moves limits given (InPayload c f kind id payload) t given' point' =
    (length payload + length t ≤ f.payload_length)
    × GoesTo limits given c (parts_with f kind id (payload ++ t)) given' point'
Moves limits given (AtEnd c) t given' point' = ⊥
