-- The whole pieces at the beginning of some bytes, and the records that end with them.
use Rattle.std.specs.Prelude.{◌≡◌, ℕ, ◌+◌, Bool, false, not, List, [], ◌∷◌, length, if◌then◌else◌}
use Rattle.ndef_format.specs.Records.{Piece}
use Rattle.ndef_fields.specs.Refusals.{AreWholeBefore}
use Rattle.ndef_diagnostics.specs.declared.wholes.WholePieces.{WholePieces}

-- NDEF 1.0, CF: the last of these pieces is a chunk that another has to follow
abbrev pub ends_in_chunk : List Piece → Bool
ends_in_chunk [] = false
ends_in_chunk (p ∷ []) = p.chunked
ends_in_chunk (p ∷ q ∷ ps) = ends_in_chunk (q ∷ ps)

-- NDEF 1.0, chunked payloads: the number of records that end with one of these pieces: no chunk follows it
abbrev pub records_ended : List Piece → ℕ
records_ended [] = 0
records_ended (p ∷ ps) = (if not p.chunked then 1 else 0) + records_ended ps

-- NDEF 1.0, messages: the whole pieces at the beginning of the bytes, and what follows them
pub record AreWholes (bytes : List ℕ) (found : WholePieces) : Type 0 where
  pub whole : AreWholeBefore bytes found.rest.now
  pub count : found.count ≡ length whole.pieces
  pub records : found.records ≡ records_ended whole.pieces
  pub chunk : found.ends_in_chunk ≡ ends_in_chunk whole.pieces
