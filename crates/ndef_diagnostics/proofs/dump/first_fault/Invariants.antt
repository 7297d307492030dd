use Rattle.std.proofs.Common.{◌≡◌, ◌∷◌, [], ◌+◌, ◌<◌, ◌^◌, length}
use Rattle.std.specs.Option.{option_map_or}
use Rattle.ndef_diagnostics.specs.Dumps.{first_fault, lines_of}
use Rattle.ndef_diagnostics.proofs.dump.first_fault.Given as goal

abbrev pub invariant-loop-fault : goal.invariant-loop-fault
invariant-loop-fault l = record {
  same : first_fault l.form l.number l.before (l.line ∷ option_map_or (λ more. lines_of more.now) l.rest []) ≡ first_fault l.form 1 [] (lines_of l.text);
  room : l.number + option_map_or (λ more. length more.now + 1) l.rest 0 < 2 ^ 64;
}

abbrev pub decreases-loop-fault : goal.decreases-loop-fault
decreases-loop-fault l = option_map_or (λ more. length more.now + 1) l.rest 0
