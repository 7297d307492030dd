-- The spelling in which messages are written (NFC Forum, NDEF 1.0, record layout).
use Rattle.std.specs.Prelude.{◌^◌, ◌<◌, length, ◌≤◌, List, ℕ, [], ◌∷◌, Option, Some, None, Bool, false, true, nat_lt, ◌++◌}
use Rattle.std.specs.List.{AllByRecursion, flat_map}
use Rattle.ndef_format.specs.Messages.{Item, IsShaped}
use Rattle.ndef_format.specs.Records.{AreOctets, code, Piece, octets, fields, body}

-- NDEF 1.0, record layout: the lengths that a piece can have
pub record HasLengths (m : Item) : Type 0 where
  pub kind : length m.kind < 256
  pub id : length m.id < 256
  pub payload : length m.payload < 2 ^ 32

-- a record that has its shape, and parts of octets, as many as a piece can have
pub record IsItem (m : Item) : Type 0 where
  pub shaped : IsShaped m
  pub lengths : HasLengths m
  pub kind : AreOctets m.kind
  pub id : AreOctets m.id
  pub payload : AreOctets m.payload

-- a message as its records: 1 to 65535 of them
pub record AreItems (m : List Item) : Type 0 where
  pub some : 1 ≤ length m
  pub few : length m ≤ 65535
  pub each : AllByRecursion IsItem m

-- an empty id is not written
abbrev pub written_id : List ℕ → Option (List ℕ)
written_id [] = None
written_id (x ∷ xs) = Some (x ∷ xs)

-- the one piece of a record
abbrev pub whole_piece : (first last : Bool) → Item → Piece
whole_piece first last m =
    record {
      first = first;
      last = last;
      chunked = false;
      tnf = code m.tnf;
      kind = m.kind;
      id = written_id m.id;
      payload = m.payload;
    }

-- there are no more records
abbrev pub is_nil : List Item → Bool
is_nil [] = true
is_nil (m ∷ ms) = false

-- the pieces of records, one each
abbrev pub whole_pieces : (first : Bool) → List Item → List Piece
whole_pieces first [] = []
whole_pieces first (m ∷ ms) = whole_piece first (is_nil ms) m ∷ whole_pieces false ms

-- each record in one piece, in short form where it can be
abbrev pub canonical : List Item → List ℕ
canonical m =
    flat_map (λ p. octets (fields p (nat_lt (length p.payload) 256)) ++ body p)
    (whole_pieces true m)
