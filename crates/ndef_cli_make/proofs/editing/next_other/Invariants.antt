use Rattle.std.proofs.Common.{◌≡◌, length, map, string_bytes}
use Rattle.ndef_cli_make.specs.Editing.{other_words}
use Rattle.ndef_cli_make.proofs.editing.next_other.Given as goal

abbrev pub invariant-loop-rest : goal.invariant-loop-rest
invariant-loop-rest l = other_words (map string_bytes l.rest) ≡ other_words (map string_bytes l.words)

abbrev pub decreases-loop-rest : goal.decreases-loop-rest
decreases-loop-rest l = length l.rest
