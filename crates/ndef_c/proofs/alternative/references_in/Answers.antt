use Rattle.std.proofs.Common.{get_or, refl}
use Rattle.ndef_c.proofs.Alternatives.{ac_at}
use Rattle.ndef_c.proofs.alternative.references_in.Goals as goal

pub bounds-payload-1 : goal.bounds-payload-1
bounds-payload-1 c = (ac_at c.args.payload.now (get_or c.args.payload.now 1 0) c.requires refl).length_within

pub bounds-payload-from : goal.bounds-payload-from
bounds-payload-from c = (ac_at c.args.payload.now c.from.result c.requires c.from.ensures).count_within
