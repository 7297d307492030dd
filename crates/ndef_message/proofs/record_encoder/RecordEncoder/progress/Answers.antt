use Rattle.std.proofs.Common.{ap, arith}
use Rattle.ndef_message.proofs.RecordSteps.{front_few}
use Rattle.ndef_message.specs.Steps.{chunk_begin}
use Rattle.ndef_message.proofs.record_encoder.RecordEncoder.progress.Goals as goal

pub returns-clause-few : goal.returns-clause-few
returns-clause-few c =
    let i = c.self.invariant in
    let most = i.is.most in
    let few = front_few c.self.inside.plan (chunk_begin c.self.inside.plan c.self.inside.progress.taken) i.can in
    let same = ap (λ b. b.progress.head) c.self.view_is in
    omega (arith, most, few, same)
