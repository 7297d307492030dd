use Rattle.std.proofs.Common.{◌≡◌, [], refl, ◌∙◌, ap, subst, inl}
use Rattle.std.proofs.lemmas.Grind.{merely}
use Rattle.ndef_format.specs.Positions.{IsOpen}
use Rattle.ndef_piece.specs.Walk.{start, spot}
use Rattle.ndef_piece.specs.declared.head_reader.Step.TheVariants as steps
use Rattle.ndef_message.specs.Machine.Points.{InHead}
use Rattle.ndef_message.specs.Machine.State.{spot_of}
use Rattle.ndef_message.proofs.Starts.{start_stands}
use Rattle.ndef_message.proofs.checker.Checker.start.Goals as goal

pub invariant_of-result : goal.invariant_of-result
invariant_of-result g c =
    let l = c.args.limits in
    let e = c.start-place.ensures in
    let s : c.spot.result ≡ spot l.profile (start l) = c.spot.ensures ∙ ap (λ p. spot_of p c.start-place.result) c.profile.ensures.value ∙ ap (spot_of l.profile) e in
    record {
      led = merely (
        [],
        [],
        InHead (start l) [],
        (
          refl,
          inl (start_stands c.format_laws.ensures.laws l c.format_laws.ensures.range g.met.L.RecordLanguage.others _ e (c.new.ensures.empty ∙ ap (λ x. record { spot = x; octets = []; answer = steps.More }) s) refl (subst (λ x. IsOpen x []) s c.new.ensures.open)),
        ),
      );
    }

pub returns-clause-reached : goal.returns-clause-reached
returns-clause-reached g c =
    let l = c.args.limits in
    let e = c.start-place.ensures in
    let s : c.spot.result ≡ spot l.profile (start l) = c.spot.ensures ∙ ap (λ p. spot_of p c.start-place.result) c.profile.ensures.value ∙ ap (spot_of l.profile) e in (
      refl,
      inl (start_stands c.format_laws.ensures.laws l c.format_laws.ensures.range g.met.L.RecordLanguage.others _ e (c.new.ensures.empty ∙ ap (λ x. record { spot = x; octets = []; answer = steps.More }) s) refl (subst (λ x. IsOpen x []) s c.new.ensures.open)),
    )
