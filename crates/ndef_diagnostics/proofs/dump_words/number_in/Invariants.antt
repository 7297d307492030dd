use Rattle.std.proofs.Common.{◌≡◌, take}
use Rattle.ndef_diagnostics.specs.Dumps.{number_in}
use Rattle.ndef_diagnostics.proofs.dump_words.number_in.Given as goal

abbrev pub invariant-loop-digit : goal.invariant-loop-digit
invariant-loop-digit l = l.number ≡ number_in l.base (take l.digit-index l.digits)
