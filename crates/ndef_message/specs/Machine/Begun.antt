-- A record in one piece that has come up to its payload at least.
use Rattle.std.specs.Prelude.{◌≡◌, ◌+◌, ◌<◌, ◌≤◌, ℕ, false, List, [], ◌++◌, length, take, unwrap_or}
use Rattle.ndef_format.specs.Limits.{LimitValues}
use Rattle.ndef_piece.specs.Whole.{BeginWithHead}
use Rattle.ndef_message.specs.Machine.State.{spot_of}
use Rattle.ndef_message.specs.declared.begun.Begun.{Begun}
use Rattle.ndef_message.specs.declared.phase.Place.{Place}

-- NDEF 1.0, record layout: the bytes begin with the head, the type, the id and the payload of such a record, which may
-- occur at the place, and end within the payload or have all of it
pub record HasBegun (limits : LimitValues) (place : Place) (bytes : List ℕ) (b : Begun) : Type 0 where
  pub count : ℕ
  pub id : List ℕ
  pub rest : List ℕ
  pub begins : BeginWithHead (spot_of limits.profile place) bytes b.head count
  pub one : b.head.chunked ≡ false
  pub kind_whole : length b.kind.now ≡ b.head.kind_length
  pub id_whole : length id ≡ unwrap_or b.head.id_length 0
  pub joined : bytes ≡ take count bytes ++ (b.kind.now ++ (id ++ (b.payload.now ++ rest)))
  pub few : length b.payload.now ≤ b.head.payload_length
  pub cut : length b.payload.now < b.head.payload_length → rest ≡ []
  pub front_is : b.front ≡ count + length b.kind.now + length id
