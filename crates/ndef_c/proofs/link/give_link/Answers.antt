use Rattle.ndef_c.proofs.Handovers.{handover_of}
use Rattle.ndef_c.proofs.link.give_link.Goals as goal

pub give_one-requires : goal.give_one-requires
give_one-requires c = let h = handover_of c.args.payload.now c.requires.handover in (h.items, (c.requires, h.records, h.each))

pub returns-clause-link : goal.returns-clause-link
returns-clause-link c = λ ok. let h = handover_of c.args.payload.now c.requires.handover in c.give_one.ensures.given ok h.items (c.requires, h.records, h.each)

pub returns-clause-end : goal.returns-clause-end
returns-clause-end c = λ end.
    let h = handover_of c.args.payload.now c.requires.handover in
    record {
      handover = c.requires.handover;
      short = c.requires.short;
      message = c.requires.message;
      items = h.items;
      records = h.records;
      beyond = c.give_one.ensures.end end h.items (c.requires, h.records, h.each);
    }
