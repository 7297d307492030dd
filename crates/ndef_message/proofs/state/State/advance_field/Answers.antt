use Rattle.std.proofs.Common.{◌≡◌, [], refl, ◌∙◌, ap, subst, arith}
use Rattle.ndef_format.specs.Positions.{IsOpen}
use Rattle.ndef_piece.specs.declared.head_reader.Step.TheVariants as steps
use Rattle.ndef_message.specs.Machine.State.{spot_of}
use Rattle.ndef_message.proofs.Settled.{settled_end}
use Rattle.ndef_message.proofs.state.State.advance_field.Goals as goal

pub returns : goal.returns
returns g c =
    let s = c.args.self.now in
    let l = c.args.limits.now in
    let no_id : c.args.id_left ≡ 0 = omega arith in
    let none : c.args.left ≡ 0 = omega arith in
    let spot = c.spot.ensures ∙ ap (λ x. spot_of x c.after-self.result) c.profile.ensures.value in
    record {
      stands = λ bytes given d f kind id payload b v.
          settled_end c.format_laws.ensures.laws g.L.RecordLanguage l s (record s { place = c.after-self.result; reader = c.new-self.result; phase = c.phase_after-self.result }) refl c.args.head bytes given d f kind id payload
          (rw (no_id, none) at b) v c.after-self.ensures
          (c.new-self.ensures.empty ∙ ap (λ x. record { spot = x; octets = []; answer = steps.More }) spot)
          (subst (λ x. IsOpen x []) spot c.new-self.ensures.open) c.phase_after-self.ensures;
    }
