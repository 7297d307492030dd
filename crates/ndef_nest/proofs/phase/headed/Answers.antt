use Rattle.ndef_nest.proofs.WholeHeads.{name_comes}
use Rattle.ndef_nest.proofs.phase.headed.Goals as goal

pub returns-clause-come : goal.returns-clause-come
returns-clause-come c records m come =
    let n = c.new.ensures in
    c.settled.ensures.come records m (name_comes c.args.context.now c.args.head.now c.new.result n.last n.id n.payload n.missing n.kind records m come)
