use Rattle.std.proofs.Common.{◌≡◌, ◌∷◌, [], ◌+◌, length}
use Rattle.std.specs.List.{flat_map, fold}
use Rattle.std.specs.Option.{option_map_or}
use Rattle.ndef_diagnostics.specs.Dumps.{decimal_digits, spelled_digits, words_of}
use Rattle.ndef_diagnostics.specs.Filled.{put}
use Rattle.ndef_diagnostics.proofs.dump_digits.put_decimals.Given as goal

abbrev pub invariant-loop-rest : goal.invariant-loop-rest
invariant-loop-rest l =
    fold put (l.spelled, l.out) (flat_map spelled_digits (l.word ∷ option_map_or (λ more. words_of more.now) l.rest [])) ≡ fold put (l.fn.before, l.fn.out) (decimal_digits l.text)

abbrev pub decreases-loop-rest : goal.decreases-loop-rest
decreases-loop-rest l = option_map_or (λ more. length more.now + 1) l.rest 0
