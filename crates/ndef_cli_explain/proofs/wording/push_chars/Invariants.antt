use Rattle.std.proofs.Common.{◌≡◌, ◌++◌}
use Rattle.std.specs.List.{flat_map}
use Rattle.ndef_cli_explain.specs.Wordings.{worded_char}
use Rattle.ndef_cli_explain.proofs.wording.push_chars.Given as goal

abbrev pub invariant-loop-c : goal.invariant-loop-c
invariant-loop-c l = l.line ≡ l.initial.line ++ flat_map worded_char l.yielded
