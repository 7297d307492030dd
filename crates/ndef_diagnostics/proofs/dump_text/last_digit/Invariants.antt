use Rattle.std.proofs.Common.{◌≡◌, take}
use Rattle.ndef_diagnostics.specs.DumpTexts.{last_digit}
use Rattle.ndef_diagnostics.proofs.dump_text.last_digit.Given as goal

abbrev pub invariant-loop-octet : goal.invariant-loop-octet
invariant-loop-octet l = l.last ≡ last_digit (take l.octet-index l.bytes)
