use Rattle.std.proofs.Common.{◌≡◌, [], sym, ◌∙◌, ap, subst, get_or, Some}
use Rattle.ndef_value.specs.SliceLaws.{cut_one, each_octet, octet_at, rest_from}
use Rattle.ndef_format.specs.HeadReasons.{reason_for}
use Rattle.ndef_format.specs.Positions.{IsOpen}
use Rattle.ndef_format.specs.Refusals.{Refuses}
use Rattle.ndef_piece.specs.Walk.{start, spot}
use Rattle.ndef_message.specs.Machine.State.{spot_of}
use Rattle.ndef_message.proofs.FirstOctets.{first_refused}
use Rattle.ndef_message.proofs.judging.refused_at_once.Goals as goal

pub returns : goal.returns
returns g c =
    let l = c.args.limits.now in
    let input = c.args.input.now in
    let reason = c.in_ok-reason.reason in
    let laws = c.format_laws.ensures in
    let b = get_or input 0 0 in
    let at : c.spot.result ≡ spot l.profile (start l) = c.spot.ensures ∙ ap (λ p. spot_of p c.start.result) c.profile.ensures.value ∙ ap (spot_of l.profile) c.start.ensures in
    let reported : reason_for (spot l.profile (start l)) [] b ≡ Some reason = subst (λ s. reason_for s [] b ≡ Some reason) at (sym c.in_ok-reason.ensures.reason) in
    subst (λ y. Refuses g.L.RecordLanguage.payloads g.L.RecordLanguage.reasons l y (record { at = 0; reason = reason })) (cut_one input c.in-len1-up.len_at_least)
    (first_refused laws.laws g.L.RecordLanguage l laws.range g.met.L.RecordLanguage.payloads_are_octets g.met.L.RecordLanguage.others b (rest_from 1 input) reason (octet_at input 0 (each_octet _ c.type_inv.input))
    (subst (λ s. IsOpen s []) at c.in_ok-reason.ensures.open) reported)
