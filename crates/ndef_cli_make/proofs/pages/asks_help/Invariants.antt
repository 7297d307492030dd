use Rattle.std.proofs.Common.{◌≡◌, length, map, string_bytes}
use Rattle.ndef_cli_make.specs.Pages.{asks_help}
use Rattle.ndef_cli_make.proofs.pages.asks_help.Given as goal

abbrev pub invariant-loop-rest : goal.invariant-loop-rest
invariant-loop-rest l = asks_help (map string_bytes l.rest) ≡ asks_help (map string_bytes l.words)

abbrev pub decreases-loop-rest : goal.decreases-loop-rest
decreases-loop-rest l = length l.rest
