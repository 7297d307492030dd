use Rattle.std.proofs.Common.{◌≡◌, ◌++◌, take}
use Rattle.std.specs.List.{flat_map}
use Rattle.ndef_cli_explain.specs.Cells.{cell}
use Rattle.ndef_cli_explain.proofs.cells.push_octets.Given as goal

abbrev pub invariant-loop-octet : goal.invariant-loop-octet
invariant-loop-octet l = l.line ≡ l.initial.line ++ flat_map cell (take l.octet-index l.octets)
