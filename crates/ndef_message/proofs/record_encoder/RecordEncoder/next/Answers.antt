use Rattle.std.proofs.Common.{sym, refl, arith, subst}
use Rattle.ndef_message.specs.Steps.{Begun, Given, Steps, WritesNext}
use Rattle.ndef_message.proofs.Putting.{front_put}
use Rattle.ndef_message.proofs.RecordBegins.{wants_payload}
use Rattle.ndef_message.proofs.RecordSteps.{some_size}
use Rattle.ndef_message.proofs.record_encoder.RecordEncoder.next.Goals as goal

pub returns-clause-written : goal.returns-clause-written
returns-clause-written c =
    let a = c.args in
    let p = c.self.inside.plan in
    let old : Begun = record { plan = p; progress = c.self.inside.progress } in
    let new : Begun = record { plan = p; progress = c.fill-next.result.progress } in
    let given : Given = record { kind = a.kind.now; id = a.id.now; part = a.part.now } in
    let f = c.fill-next.ensures in
    let put = front_put f.steps.1 in
    subst (λ o. WritesNext o given a.buffer.now c.fill-next.new.buffer c.fill-next.result.count new) c.self.view_is (record {
      plan = refl;
      octets = subst (Steps p a.kind.now a.id.now a.part.now c.self.inside.progress c.fill-next.result.progress) (sym put.0) f.steps.2;
      within = put.1;
      kept = put.2;
      all = λ space. let full = f.full (omega (arith, space)) in
          (full.0, wants_payload p c.fill-next.result.progress (some_size p.size c.self.invariant.size) full.1);
    })
