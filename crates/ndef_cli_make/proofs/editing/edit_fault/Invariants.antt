use Rattle.ndef_cli_make.specs.CommandLine.{IsMaker}
use Rattle.ndef_cli_make.proofs.editing.edit_fault.Given as goal

abbrev pub invariant-loop-part : goal.invariant-loop-part
invariant-loop-part l = IsMaker l.command
