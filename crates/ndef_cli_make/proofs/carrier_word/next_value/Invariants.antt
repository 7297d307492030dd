use Rattle.std.proofs.Common.{◌≡◌, ◌+◌, length}
use Rattle.std.specs.Option.{option_map_or}
use Rattle.ndef_cli_make.specs.CarrierWords.{values_left}
use Rattle.ndef_cli_make.proofs.carrier_word.next_value.Given as goal

abbrev pub invariant-loop-rest : goal.invariant-loop-rest
invariant-loop-rest l = values_left l.key l.rest ≡ values_left l.key l.text

abbrev pub decreases-loop-rest : goal.decreases-loop-rest
decreases-loop-rest l = option_map_or (λ more. length more.now + 1) l.rest 0
