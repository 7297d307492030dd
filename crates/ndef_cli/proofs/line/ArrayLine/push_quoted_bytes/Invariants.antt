use Rattle.std.proofs.Common.{◌≡◌, ◌++◌, ◌+◌, ◌*◌, ◌≤◌, length, take}
use Rattle.std.specs.List.{flat_map}
use Rattle.ndef_cli.specs.Quoting.{quoted_byte}
use Rattle.ndef_cli.proofs.line.ArrayLine.push_quoted_bytes.Given as goal

abbrev pub invariant-loop-byte : goal.invariant-loop-byte
invariant-loop-byte g l = (l.self ≡ l.initial.self ++ flat_map quoted_byte (take l.byte-index l.bytes))
    × (length l.self ≤ length l.initial.self + 4 * l.byte-index)
