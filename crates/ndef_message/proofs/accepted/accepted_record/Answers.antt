use Rattle.std.proofs.Common.{◌≡◌, ℕ, List, true, false, sym, ◌∙◌, ap, subst, refl}
use Rattle.ndef_format.specs.Records.{AreOctets, tnf_of}
use Rattle.ndef_format.specs.HeadReasons.{is_set}
use Rattle.ndef_format.specs.Positions as pieces
use Rattle.ndef_piece.specs.Whole.{shown}
use Rattle.ndef_message.specs.Machine.Accepted.{BeginsWith, IsTakenRecord}
use Rattle.ndef_message.specs.Machine.State.{spot_of}
use Rattle.ndef_message.proofs.Accepting.{record_from, run_from}
use Rattle.ndef_message.proofs.accepted.accepted_record.Goals as goal

pub returns : goal.returns
returns g c =
    let set = g.L.RecordLanguage.payloads in
    let l = c.args.limits.now in
    let w = c.in_ok-piece.piece in
    let p = shown w in
    let place = c.args.place.now in
    let spot : c.spot.result ≡ spot_of l.profile place = c.spot.ensures ∙ ap (λ x. spot_of x place) c.profile.ensures.value in
    let at = c.opens_at.ensures in
    let yes = c.if-not-opens_at.false in
    let stands = subst (λ x. pieces.IsConsistentAt x p) spot (at.stands yes) in
    let outside : place.inside ≡ false = sym (ap (λ x. x.inside) spot) ∙ at.outside yes in
    let chunked : is_set 5 w.header ≡ true = sym c.is_chunked.ensures ∙ c.if-not-is_chunked.false in
    let any : (s : List ℕ) → AreOctets s → set (tnf_of p.tnf) p.kind l.records l.profile s = λ s h. subst (λ t. set t w.kind.now l.records l.profile s) c.tnf.ensures (c.takes_all.ensures c.if-not-takes_all.false l.records l.profile s h) in
    run_from set l place c.args.bytes.now p (is_set 4 w.header) w.rest.now _ c.in_ok-more.more c.in_ok-more.last c.past_chunk-next.result c.in_ok-piece.ensures.piece stands chunked outside any refl
    c.past_chunk-next.ensures c.in_ok-more.ensures.within c.in_ok-more.ensures.ends

pub returns-then-not-is_chunked : goal.returns-then-not-is_chunked
returns-then-not-is_chunked g c =
    let set = g.L.RecordLanguage.payloads in
    let l = c.args.limits.now in
    let place = c.args.place.now in
    let is = c.is_record.ensures in
    let yes = c.if-not-is_record.false in
    let found = c.in_ok-piece.ensures in
    let begins : BeginsWith set l place c.args.bytes.now c.in_ok-piece.piece = record { outer = is.outer yes; split = found.piece; no_id = found.no_id; stands = is.stands yes; one = is.one yes; member = is.member yes } in
    subst (IsTakenRecord set l place c.args.bytes.now _) (sym c.is_last.ensures) (record_from set l place c.args.bytes.now c.in_ok-piece.piece _ begins refl)
