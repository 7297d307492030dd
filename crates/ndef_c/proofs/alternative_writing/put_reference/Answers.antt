use Rattle.std.proofs.Common.{subst}
use Rattle.ndef_c.specs.Buffers.{Puts}
use Rattle.ndef_c.proofs.Counted.{counted_is}
use Rattle.ndef_c.proofs.Puts.{puts_on}
use Rattle.ndef_c.proofs.alternative_writing.put_reference.Goals as goal

pub returns : goal.returns
returns c =
    let a = c.args in
    subst (λ x. Puts a.out.now x c.put-2.new.self) (counted_is a.bytes.now c.split_at.result.1.now a.part.now c.requires c.split_at.ensures.back) (puts_on c.put.ensures c.put-2.ensures)
