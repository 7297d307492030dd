use Rattle.std.proofs.Common.{subst}
use Rattle.ndef_c.specs.AlternativeWrites.{counted_part}
use Rattle.ndef_c.specs.Buffers.{Puts}
use Rattle.ndef_c.specs.declared.part.NdefPart.{NdefPart}
use Rattle.ndef_c.proofs.Counted.{joined_more}
use Rattle.ndef_c.proofs.Puts.{puts_on}
use Rattle.ndef_c.proofs.alternative_writing.put_references.Goals as goal

pub loop-part-preserved : goal.loop-part-preserved
loop-part-preserved c =
    let none : NdefPart = record { at = 0; length = 0 } in
    subst (λ x. Puts c.args.out.now x c.put_reference.new.out) (joined_more (counted_part c.args.bytes.now) c.args.parts.now c.loop-part.part-index none c.loop-part-test.true)
    (puts_on c.loop-part.invariant c.put_reference.ensures)
