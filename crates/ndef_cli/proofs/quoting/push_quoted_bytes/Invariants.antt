use Rattle.std.proofs.Common.{◌≡◌, ◌++◌, length}
use Rattle.ndef_cli.specs.Quoting.{quoted_bytes}
use Rattle.ndef_cli.proofs.quoting.push_quoted_bytes.Given as goal

abbrev pub invariant-loop-byte : goal.invariant-loop-byte
invariant-loop-byte l = l.line ++ quoted_bytes l.rest ≡ l.initial.line ++ quoted_bytes l.bytes

abbrev pub decreases-loop-byte : goal.decreases-loop-byte
decreases-loop-byte l = length l.rest
