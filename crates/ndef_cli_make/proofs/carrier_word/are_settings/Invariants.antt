use Rattle.std.proofs.Common.{◌≡◌, ◌∷◌, [], ◌+◌, length}
use Rattle.std.specs.List.{list_all, slice_split}
use Rattle.std.specs.Option.{option_map_or}
use Rattle.ndef_cli_make.specs.CarrierWords.{is_setting}
use Rattle.ndef_cli_make.specs.Options.{is_comma}
use Rattle.ndef_cli_make.proofs.carrier_word.are_settings.Given as goal

abbrev pub invariant-loop-rest : goal.invariant-loop-rest
invariant-loop-rest l =
    list_all is_setting (l.setting ∷ option_map_or (λ more. slice_split is_comma more.now) l.rest []) ≡ list_all is_setting (slice_split is_comma l.text)

abbrev pub decreases-loop-rest : goal.decreases-loop-rest
decreases-loop-rest l = option_map_or (λ more. length more.now + 1) l.rest 0
