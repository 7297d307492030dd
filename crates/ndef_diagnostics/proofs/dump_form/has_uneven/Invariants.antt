use Rattle.std.proofs.Common.{◌≡◌, ◌∷◌, [], ◌+◌, length}
use Rattle.std.specs.List.{list_any}
use Rattle.std.specs.Option.{option_map_or}
use Rattle.ndef_diagnostics.specs.Dumps.{is_uneven, words_of}
use Rattle.ndef_diagnostics.proofs.dump_form.has_uneven.Given as goal

abbrev pub invariant-loop-rest : goal.invariant-loop-rest
invariant-loop-rest l = list_any is_uneven (l.word ∷ option_map_or (λ more. words_of more.now) l.rest []) ≡ list_any is_uneven (words_of l.text)

abbrev pub decreases-loop-rest : goal.decreases-loop-rest
decreases-loop-rest l = option_map_or (λ more. length more.now + 1) l.rest 0
