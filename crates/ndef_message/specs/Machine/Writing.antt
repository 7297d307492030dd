-- The pieces that are written, by their positions.
use Rattle.std.specs.Prelude.{ℕ, List, ◌&&◌, not}
use Rattle.ndef_format.specs.Messages.{Item}
use Rattle.ndef_format.specs.Records.{Piece}
use Rattle.ndef_message.specs.Cut.{first_piece}
use Rattle.ndef_message.specs.declared.heads.Standing.{Standing}

-- the first piece of a record at that position, with this part of its payload
abbrev pub standing_piece : Standing → Item → List ℕ → Piece
standing_piece standing item part = first_piece standing.first (standing.alone && standing.last)
    (not standing.alone) item part
