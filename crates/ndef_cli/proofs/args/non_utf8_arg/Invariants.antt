use Rattle.std.proofs.Common.{take}
use Rattle.std.specs.Prelude.{IsUtf8}
use Rattle.std.specs.List.{AllByRecursion}
use Rattle.ndef_cli.proofs.args.non_utf8_arg.Given as goal

abbrev pub invariant-loop-word : goal.invariant-loop-word
invariant-loop-word l = AllByRecursion IsUtf8 (take l.word-index l.args)
