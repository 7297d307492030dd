use Rattle.std.proofs.Common.{take}
use Rattle.std.specs.List.{flat_map}
use Rattle.ndef_c.specs.AlternativeWrites.{counted_part}
use Rattle.ndef_c.specs.Buffers.{Puts}
use Rattle.ndef_c.proofs.alternative_writing.put_references.Given as goal

abbrev pub invariant-loop-part : goal.invariant-loop-part
invariant-loop-part l = Puts l.fn.out (flat_map (counted_part l.bytes) (take l.part-index l.parts)) l.out
