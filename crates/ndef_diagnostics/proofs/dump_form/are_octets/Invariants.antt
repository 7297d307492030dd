use Rattle.std.proofs.Common.{◌≡◌, ◌∷◌, [], ◌+◌, length}
use Rattle.std.specs.List.{list_all}
use Rattle.std.specs.Option.{option_map_or}
use Rattle.ndef_diagnostics.specs.Dumps.{is_octet, words_of}
use Rattle.ndef_diagnostics.proofs.dump_form.are_octets.Given as goal

abbrev pub invariant-loop-rest : goal.invariant-loop-rest
invariant-loop-rest l = list_all is_octet (l.word ∷ option_map_or (λ more. words_of more.now) l.rest []) ≡ list_all is_octet (words_of l.text)

abbrev pub decreases-loop-rest : goal.decreases-loop-rest
decreases-loop-rest l = option_map_or (λ more. length more.now + 1) l.rest 0
