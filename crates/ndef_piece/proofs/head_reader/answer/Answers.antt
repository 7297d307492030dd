use Rattle.std.proofs.Common.{arith, sym, ◌∙◌, take, length, ◌<◌}
use Rattle.std.proofs.lemmas.List.{length-take, take_more_set}
use Rattle.ndef_piece.proofs.Steps.{open_short, answered, answered_refused}
use Rattle.ndef_piece.proofs.head_reader.answer.Goals as goal

pub shared_ref_as_front-reason : goal.shared_ref_as_front-reason
shared_ref_as_front-reason c = omega (arith, open_short _ _ c.requires, length-take c.args.count c.args.octets.now, c.fits-octets)

pub bounds-octets-count : goal.bounds-octets-count
bounds-octets-count c = omega (arith, open_short _ _ c.requires, length-take c.args.count c.args.octets.now, c.fits-octets)

pub shared_ref_as_front-step_after : goal.shared_ref_as_front-step_after
shared_ref_as_front-step_after c = omega (arith, open_short _ _ c.requires, length-take c.args.count c.args.octets.now, c.fits-octets)

pub returns-in-Some-clause-answer : goal.returns-in-Some-clause-answer
returns-in-Some-clause-answer c = answered_refused c.args.spot.now (take c.args.count c.args.octets.now) c.args.octet c.in-Some.reason (sym c.reason-reason.ensures ∙ c.in-Some.is)

pub returns-in-None-clause-answer : goal.returns-in-None-clause-answer
returns-in-None-clause-answer c =
    let n = open_short _ _ c.requires in
    let m = length-take c.args.count c.args.octets.now in
    let below : c.args.count < length c.args.octets.now = omega (arith, c.fits-octets) in
    let t = take_more_set c.args.octets.now c.args.count c.args.octet below in
    answered c.args.spot.now (take c.args.count c.args.octets.now) c.args.octet c.step_after.result c.requires c.ranges.octet.fits
    (sym c.reason-reason.ensures ∙ c.in-None.is) (rw t at c.step_after.ensures.more) (rw t at c.step_after.ensures.whole)
