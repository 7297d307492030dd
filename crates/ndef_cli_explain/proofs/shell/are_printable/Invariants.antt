use Rattle.std.proofs.Common.{◌≡◌, true, take}
use Rattle.std.specs.List.{list_all}
use Rattle.ndef_cli_explain.specs.Shell.{is_printable}
use Rattle.ndef_cli_explain.proofs.shell.are_printable.Given as goal

abbrev pub invariant-loop-byte : goal.invariant-loop-byte
invariant-loop-byte l = list_all is_printable (take l.byte-index l.bytes) ≡ true
