use Rattle.std.proofs.Common.{◌≡◌, ◌∷◌, [], ◌+◌, length}
use Rattle.std.specs.List.{flat_map, fold}
use Rattle.std.specs.Option.{option_map_or}
use Rattle.ndef_diagnostics.specs.Dumps.{word_digits, without_prefix, words_of}
use Rattle.ndef_diagnostics.specs.Filled.{put}
use Rattle.ndef_diagnostics.proofs.dump_digits.put_words.Given as goal

abbrev pub invariant-loop-rest : goal.invariant-loop-rest
invariant-loop-rest l =
    fold put (l.spelled, l.out) (flat_map without_prefix (l.word ∷ option_map_or (λ more. words_of more.now) l.rest [])) ≡ fold put (l.fn.before, l.fn.out) (word_digits l.text)

abbrev pub decreases-loop-rest : goal.decreases-loop-rest
decreases-loop-rest l = option_map_or (λ more. length more.now + 1) l.rest 0
