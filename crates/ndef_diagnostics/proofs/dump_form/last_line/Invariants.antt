use Rattle.std.proofs.Common.{◌≡◌, ◌∷◌, [], ◌+◌, length}
use Rattle.std.specs.Option.{option_map_or}
use Rattle.ndef_diagnostics.specs.Dumps.{last_line, lines_of}
use Rattle.ndef_diagnostics.proofs.dump_form.last_line.Given as goal

abbrev pub invariant-loop-rest : goal.invariant-loop-rest
invariant-loop-rest l = last_line l.last (l.line ∷ option_map_or (λ more. lines_of more.now) l.rest []) ≡ last_line [] (lines_of l.text)

abbrev pub decreases-loop-rest : goal.decreases-loop-rest
decreases-loop-rest l = option_map_or (λ more. length more.now + 1) l.rest 0
