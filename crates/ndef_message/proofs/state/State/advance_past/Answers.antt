use Rattle.std.proofs.Common.{refl, ◌∙◌, ap, sym, subst, []}
use Rattle.std.specs.Prelude.{if◌then◌else◌}
use Rattle.ndef_format.specs.Positions.{IsOpen}
use Rattle.ndef_piece.specs.declared.head_reader.Step.TheVariants as steps
use Rattle.ndef_message.specs.Machine.State.{spot_of}
use Rattle.ndef_message.specs.declared.phase.Phase.TheVariants as phases
use Rattle.ndef_message.proofs.state.State.advance_past.Goals as goal

pub new-self-requires : goal.new-self-requires
new-self-requires g c first = ap (λ x. x.inside) c.spot.ensures ∙ c.requires

pub returns-then-last : goal.returns-then-last
returns-then-last g c = record {
  place_is = refl;
  reader_is = λ e. cc;
  opens = λ e. cc;
  phase_is = ap (λ x. if x then phases.Done else phases.Head) (sym c.if-last.true);
}

pub returns : goal.returns
returns g c =
    let place = c.args.place in
    let spot = c.spot.ensures ∙ ap (λ x. spot_of x place) c.profile.ensures.value in
    record {
      place_is = refl;
      reader_is = λ _. c.new-self.ensures.empty ∙ ap (λ x. record { spot = x; octets = []; answer = steps.More }) spot;
      opens = λ _. subst (λ x. IsOpen x []) spot c.new-self.ensures.open;
      phase_is = ap (λ x. if x then phases.Done else phases.Head) (sym c.if-last.false);
    }
