use Rattle.std.proofs.Common.{refl, sym, ◌∙◌, ap, subst, []}
use Rattle.ndef_format.specs.Positions.{IsOpen}
use Rattle.ndef_piece.specs.declared.head_reader.Step.TheVariants as steps
use Rattle.ndef_message.specs.Machine.State.{spot_of}
use Rattle.ndef_message.proofs.state.State.advance_past_chunks.Goals as goal

pub new-self-requires : goal.new-self-requires
new-self-requires g c first = absurd (let e = sym (ap (λ x. x.first) c.spot.ensures ∙ c.requires) ∙ first in cc)

pub returns : goal.returns
returns g c =
    let spot = c.spot.ensures ∙ ap (λ x. spot_of x c.args.place) c.profile.ensures.value in
    record {
      place_is = refl;
      reader_is = c.new-self.ensures.empty ∙ ap (λ x. record { spot = x; octets = []; answer = steps.More }) spot;
      opens = subst (λ x. IsOpen x []) spot c.new-self.ensures.open;
      payload_is = refl;
      phase_is = refl;
    }
