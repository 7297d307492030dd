-- The run at the front of some bytes, as it is read.
use Rattle.std.specs.Prelude.{◌≡◌, ℕ, false, List, [], length}
use Rattle.ndef_format.specs.Records.{Run, pieces}
use Rattle.ndef_format.specs.Messages.{run_record}
use Rattle.ndef_format.specs.HeadReasons.{is_set}
use Rattle.ndef_piece.specs.Whole.{IsSplit, shown}
use Rattle.ndef_c.specs.Walks.{BeginsWithRun, ends_message}
use Rattle.ndef_c.specs.declared.run.FirstRun.{FirstRun}

-- the bytes begin with a run
abbrev pub HasRun : List ℕ → Type 0
HasRun bytes = (run : Run) × (rest : List ℕ) × BeginsWithRun run rest bytes

-- NDEF 1.0, chunked payloads: it is the run with which the bytes begin
pub record IsFirstRun (bytes : List ℕ) (f : FirstRun) : Type 0 where
  pub run : Run
  pub begins : BeginsWithRun run f.rest.now bytes
  pub initial : shown f.first ≡ run.initial
  pub split : IsSplit (shown f.first) (is_set 4 f.first.header) f.first.rest.now bytes
  pub no_id : is_set 3 f.first.header ≡ false → f.first.id.now ≡ []
  pub payload : f.payload ≡ length (run_record run).payload
  pub pieces_are : f.pieces ≡ length (pieces run)
  pub last : f.last ≡ ends_message run.initial run.later
