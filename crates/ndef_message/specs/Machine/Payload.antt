-- The payloads that the open record can still have.
use Rattle.std.specs.Prelude.{◌+◌, ◌-◌, ℕ, Bool, List, ◌++◌, if◌then◌else◌}
use Rattle.ndef_format.specs.Messages.{Item}
use Rattle.ndef_format.specs.Limits.{LimitValues}
use Rattle.ndef_format.specs.Payloads.{Sets}

-- the octets that complete the payload of a record
abbrev pub completes : Sets → LimitValues → Item → List ℕ → Type 0
completes set limits m r = set m.tnf m.kind limits.records limits.profile (m.payload ++ r)

-- NDEF 1.0, chunked payloads: the most payload octets that can still come to a record, where `left` are left of a piece
-- with n of them: in this piece alone, or with CF up to the budget that is left after it
abbrev pub most_left : (chunked : Bool) → (room n left : ℕ) → ℕ
most_left chunked room n left = if chunked then left + (room - n) else left
