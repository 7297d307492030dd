use Rattle.std.proofs.Common.{length, take}
use Rattle.std.specs.List.{All}
use Rattle.ndef_c.specs.AlternativeWrites.{MayBeReference}
use Rattle.ndef_c.proofs.alternative_writing.are_references.Given as goal

abbrev pub invariant-loop-part : goal.invariant-loop-part
invariant-loop-part l = All (MayBeReference (length l.bytes)) (take l.part-index l.parts)
