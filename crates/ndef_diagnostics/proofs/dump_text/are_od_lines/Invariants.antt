use Rattle.std.proofs.Common.{◌≡◌, ◌∷◌, [], ◌+◌, length}
use Rattle.std.specs.List.{list_all}
use Rattle.std.specs.Option.{option_map_or}
use Rattle.ndef_diagnostics.specs.DumpTexts.{is_od_line}
use Rattle.ndef_diagnostics.specs.Dumps.{lines_of}
use Rattle.ndef_diagnostics.proofs.dump_text.are_od_lines.Given as goal

abbrev pub invariant-loop-rest : goal.invariant-loop-rest
invariant-loop-rest l = list_all is_od_line (l.line ∷ option_map_or (λ more. lines_of more.now) l.rest []) ≡ list_all is_od_line (lines_of l.text)

abbrev pub decreases-loop-rest : goal.decreases-loop-rest
decreases-loop-rest l = option_map_or (λ more. length more.now + 1) l.rest 0
