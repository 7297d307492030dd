use Rattle.std.proofs.Common.{◌≡◌, None, map, take}
use Rattle.std.specs.List.{find, flat_map}
use Rattle.ndef_cli_make.specs.References.{is_missing, references_in}
use Rattle.ndef_cli_make.proofs.references.find_in_words.Given as goal

abbrev pub invariant-loop-word : goal.invariant-loop-word
invariant-loop-word l = find (is_missing l.records) (flat_map references_in (map (λ word. word.now) (take l.word-index l.words))) ≡ None
