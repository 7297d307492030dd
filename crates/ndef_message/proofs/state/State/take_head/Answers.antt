use Rattle.std.proofs.Common.{◌++◌, [], inl, take}
use Rattle.ndef_message.specs.Machine.Moves.{given_next, point_next}
use Rattle.ndef_message.proofs.Entered as entered
use Rattle.ndef_message.proofs.HeadOctets as heads
use Rattle.ndef_message.proofs.Octets as octets
use Rattle.ndef_message.proofs.Somewhere.{number_of_some}
use Rattle.ndef_message.proofs.state.State.take_head.Goals as goal

pub returns-then-not-self-clause-few : goal.returns-then-not-self-clause-few
returns-then-not-self-clause-few g c = heads.whole_few _ _ _ _ c.in_ok-head.ensures.begins

pub returns-then-not-self-clause-onward : goal.returns-then-not-self-clause-onward
returns-then-not-self-clause-onward g c front given point stands =
    let laws = c.format_laws.ensures in
    let t = take c.in_ok-head.count c.args.bytes.now in
    let a = octets.at_head point c.requires.phase stands in
    let w = heads.whole_fresh laws.laws laws.range g.met.L.RecordLanguage.payloads_are_octets g.met.L.RecordLanguage.others a c.in_ok-head.ensures.fresh c.in_ok-head.ensures.begins.whole in
    let members = entered.given_members laws.laws _ _ laws.range front given point stands.at stands.viable in
    inl (
      given_next c.args.limits.now given a.c w.0 [] [] [],
      point_next c.args.limits.now a.c w.0 [] [] [],
      heads.moves_head c.args.limits.now given point t a.c a.xs w.0 a.point_is w.1.stands w.2,
      c.begin_record.ensures.stands (front ++ t) given a.c w.0 w.1 members,
    )

pub fits-requires : goal.fits-requires
fits-requires g c =
    let laws = c.format_laws.ensures in
    rw c.most_left-most.ensures (number_of_some _ _ _ c.requires.led (λ led.
    let a = octets.at_head led.2 c.requires.phase led.3 in
    let w = heads.whole_fresh laws.laws laws.range g.met.L.RecordLanguage.payloads_are_octets g.met.L.RecordLanguage.others a c.in_ok-head.ensures.fresh c.in_ok-head.ensures.begins.whole in
    entered.body_small laws.laws laws.range (heads.whole_inside laws.laws laws.range g.met.L.RecordLanguage.payloads_are_octets g.met.L.RecordLanguage.others w.1 c.if-not-self.false)))

pub returns-clause-few : goal.returns-clause-few
returns-clause-few g c = heads.whole_few _ _ _ _ c.in_ok-head.ensures.begins

pub returns-clause-onward : goal.returns-clause-onward
returns-clause-onward g c front given point stands =
    let laws = c.format_laws.ensures in
    let t = take c.in_ok-head.count c.args.bytes.now in
    let a = octets.at_head point c.requires.phase stands in
    let w = heads.whole_fresh laws.laws laws.range g.met.L.RecordLanguage.payloads_are_octets g.met.L.RecordLanguage.others a c.in_ok-head.ensures.fresh c.in_ok-head.ensures.begins.whole in
    let body = heads.whole_inside laws.laws laws.range g.met.L.RecordLanguage.payloads_are_octets g.met.L.RecordLanguage.others w.1 c.if-not-self.false in
    let members = entered.given_members laws.laws _ _ laws.range front given point stands.at stands.viable in
    let can = entered.reported_yes (g.met.L.RecordLanguage.exact c.args.self.now.payload) c.fits.ensures c.from.ensures c.most_left-most.ensures (entered.body_small laws.laws laws.range body) c.if-not-fits.false in
    inl (
      given_next c.args.limits.now given a.c w.0 [] [] [],
      point_next c.args.limits.now a.c w.0 [] [] [],
      heads.moves_head c.args.limits.now given point t a.c a.xs w.0 a.point_is w.1.stands w.2,
      c.advance_field.ensures.stands (front ++ t) given a.c w.0 [] [] [] body (entered.body_goes_on laws.laws laws.range body g.met.L.RecordLanguage.payloads_are_octets g.met.L.RecordLanguage.others members can),
    )
