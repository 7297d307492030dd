use Rattle.ndef_c.proofs.Handovers.{handover_of}
use Rattle.ndef_c.proofs.links.give_links.Goals as goal

pub give_all-requires : goal.give_all-requires
give_all-requires c = let h = handover_of c.args.payload.now c.requires.handover in (h.items, (c.requires, h.records, h.each))

pub returns : goal.returns
returns c =
    let t = c.give_all.ensures.gives in
    record { may = c.requires; items = t.0; records = t.1.1; gives = t.2 }
