use Rattle.std.proofs.Common.{sym, ◌∙◌, ap, subst}
use Rattle.ndef_format.specs.Positions as pieces
use Rattle.ndef_piece.specs.Whole.{shown}
use Rattle.ndef_message.specs.Machine.State.{spot_of}
use Rattle.ndef_message.proofs.Accepting.{member_at}
use Rattle.ndef_message.proofs.accepted.is_record.Goals as goal

pub returns : goal.returns
returns g c =
    let place = c.args.place.now in
    let w = c.args.piece.now in
    let spot = c.spot.ensures ∙ ap (λ x. spot_of x place) c.profile-profile.ensures.value in
    let at = c.is_record_at.ensures in
    let yes = c.if-not-is_record_at.false in
    record {
      stands = λ h. subst (λ x. pieces.IsConsistentAt x (shown w)) spot (at.stands yes);
      one = λ h. at.one yes;
      outer = λ h. sym (ap (λ x. x.inside) spot) ∙ at.outside yes;
      member = λ h. member_at g.L.RecordLanguage.payloads _ _ w.kind.now _ _ _ _ w.payload.now c.tnf.ensures c.records.ensures.value c.profile-profile.ensures.value (c.has.ensures h);
    }
