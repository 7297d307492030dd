use Rattle.std.proofs.Common.{sym, ◌∙◌, ap, length, subst}
use Rattle.ndef_format.specs.Handovers.{IsAlternative}
use Rattle.ndef_types.specs.Values.{StandsForAc}
use Rattle.ndef_c.proofs.LinkParts.{carrier_bound, carrier_in_set, handover_with, link_is}
use Rattle.ndef_c.proofs.Walking.{moved}
use Rattle.ndef_c.proofs.links.LinksRecordQuery.given.Goals as goal

pub after_version-requires : goal.after_version-requires
after_version-requires c = (handover_with c.args.self.now.bytes.now c.args.self.now.payload.now c.requires.0 c.requires.2).some

pub part_in-carrier-requires : goal.part_in-carrier-requires
part_in-carrier-requires c = let w = c.requires.3 in (w.from, (moved (sym c.after_version.ensures) w.there).0)

pub link_of-requires : goal.link_of-requires
link_of-requires c =
    let payload = c.args.self.now.payload.now in
    let w = c.requires.3 in
    let m = moved (sym c.after_version.ensures) w.there in
    let e = c.part_in-carrier.ensures w.from m.0 ∙ ap (λ r. r.initial.payload) m.1 in
    let h = handover_with c.args.self.now.bytes.now payload c.requires.0 c.requires.2 in
    record {
      message = c.requires.2.0.message;
      alternative = subst IsAlternative (sym e) (carrier_in_set payload h c.requires.1 c.args.found.now w);
      bound = carrier_bound payload h c.requires.1 c.args.found.now w c.requires.2.0.short;
    }

pub returns : goal.returns
returns c = λ items index has w.
    let bytes = c.args.self.now.bytes.now in
    let payload = c.args.self.now.payload.now in
    let h = handover_with bytes payload items has in
    let m = moved (sym c.after_version.ensures) w.there in
    let e = c.part_in-carrier.ensures w.from m.0 ∙ ap (λ r. r.initial.payload) m.1 in
    let v = c.alternatives_are_exact.ensures.exact.each w.there.run.initial.payload (carrier_in_set payload h index c.args.found.now w) in
    link_is bytes payload has.0 h index c.args.found.now c.link_of.result v.0 w c.link_of.ensures.at (c.link_of.ensures.length ∙ ap length e) v.1.1
    (λ runs b. c.link_of.ensures.refers runs v.0 b (subst (λ p. StandsForAc p v.0) (sym e) v.1.1))
