use Rattle.std.proofs.Common.{◌≡◌, ◌++◌, ◌<◌, length}
use Rattle.ndef_cli_explain.specs.Cells.{later_rows}
use Rattle.ndef_cli_explain.proofs.cells.push_later_rows.Given as goal

abbrev pub invariant-loop-rest : goal.invariant-loop-rest
invariant-loop-rest l = record {
  same : l.line ++ later_rows l.characters l.depth l.column l.rest ≡ l.initial.line ++ later_rows l.characters l.depth 0 l.octets;
  column : l.column < 8;
}

abbrev pub decreases-loop-rest : goal.decreases-loop-rest
decreases-loop-rest l = length l.rest
