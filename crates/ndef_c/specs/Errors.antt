-- The result for the payload of a handover error.
use Rattle.std.specs.Prelude.{◌≡◌, ℕ, ◌^◌, ◌<◌, ◌==◌, ◌&&◌, nat_le, List, length, slice_index, Option, Some, None, if◌then◌else◌}
use Rattle.std.specs.Int.{w32, from_be_bytes}
use Rattle.ndef_format.specs.Handovers.{IsError}
use Rattle.ndef_types.specs.Values.{ErrorValue, StandsForError}
use Rattle.ndef_c.specs.Nested.{TellsNumber}
use Rattle.ndef_c.specs.Walks.{Lies}
use Rattle.ndef_c.specs.declared.error.NdefError.{NdefError}

-- Connection Handover 1.2, Error record: the data of a defined reason are a number, of four octets
-- for reason 2, most significant first, else of one
abbrev pub detail_number : (reason : ℕ) → List ℕ → ℕ
detail_number reason detail = if reason == 2 then from_be_bytes w32 detail else slice_index detail 0

-- Connection Handover 1.2, Error record: the number that the data of a defined reason give; 1 to 3
-- are defined
abbrev pub number_reported : (reason : ℕ) → List ℕ → Option ℕ
number_reported reason detail =
    if nat_le 1 reason && nat_le reason 3 then Some (detail_number reason detail) else None

-- Connection Handover 1.2, Error record: the payload is that of an error: its reason, where its
-- data lie, and the number that they give
pub record IsErrorAt (payload : List ℕ) (out : NdefError) : Type 0 where
  pub in_set : IsError payload
  pub short : length payload < 2 ^ 32
  pub error : ErrorValue
  pub stands : StandsForError payload error
  pub reason : out.reason ≡ error.reason
  pub detail : Lies payload out.data_at out.data_length error.detail
  pub place : out.data_at ≡ 1
  pub number : TellsNumber (number_reported error.reason error.detail) out.has_number out.number
