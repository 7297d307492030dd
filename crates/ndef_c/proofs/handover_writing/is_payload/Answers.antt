use Rattle.std.proofs.Common.{length}
use Rattle.std.proofs.lemmas.Bool.{eq-eqb, eqb-true}
use Rattle.ndef_format.specs.declared.profile.Profile.TheVariants.{Strict}
use Rattle.ndef_c.proofs.Stepped.{all_stepped, after_octet, stepped_all}
use Rattle.ndef_c.proofs.handover_writing.is_payload.Goals as goal

pub returns : goal.returns
returns g c =
    let L = g.L.Language in
    let following = c.args.following.now in
    let next = L.future c.step.new.self in
    let last = L.future c.step_all.new.self in
    let member = after_octet (L.payloads c.args.kind 65535 Strict) (L.future c.start-state.result) next c.args.octet following c.start-state.ensures.future c.step.ensures.future in (
      λ t. member.0 (all_stepped next last following c.step_all.result c.step_all.ensures.steps (eqb-true c.step_all.result (length following) t)),
      λ h. eq-eqb c.step_all.result (length following) (stepped_all next last following c.step_all.result c.step_all.ensures.steps (member.1 h)),
    )
