use Rattle.std.proofs.Common.{◌≡◌, false, map, take, string_bytes}
use Rattle.ndef_cli_make.specs.Asked.{has_word}
use Rattle.ndef_cli_make.proofs.parts.has_word.Given as goal

abbrev pub invariant-loop-word : goal.invariant-loop-word
invariant-loop-word l = has_word l.id (take l.word-index (map string_bytes l.words)) ≡ false
