use Rattle.std.proofs.Common.{◌≡◌, ◌++◌, length}
use Rattle.std.specs.List.{flat_map}
use Rattle.ndef_cli_explain.specs.Shell.{quoted_byte}
use Rattle.ndef_cli_explain.proofs.shell.push_quoted_bytes.Given as goal

abbrev pub invariant-loop-rest : goal.invariant-loop-rest
invariant-loop-rest l = l.line ++ flat_map quoted_byte l.rest ≡ l.initial.line ++ flat_map quoted_byte l.word

abbrev pub decreases-loop-rest : goal.decreases-loop-rest
decreases-loop-rest l = length l.rest
