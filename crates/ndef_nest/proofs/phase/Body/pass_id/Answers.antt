use Rattle.std.proofs.Common.{◌++◌}
use Rattle.ndef_lang.specs.Machine.Leaf.{CompletesLeaf}
use Rattle.ndef_lang.specs.StepLaws.{octets_each}
use Rattle.ndef_nest.specs.Machine.Demands.{Later, Tail}
use Rattle.ndef_nest.proofs.Ids.{ids_taken}
use Rattle.ndef_nest.proofs.Reaching.{id_more}
use Rattle.ndef_nest.proofs.phase.Body.pass_id.Goals as goal

pub returns-clause-steps : goal.returns-clause-steps
returns-clause-steps c lo hi p =
    let x = c.args.context.now in
    let s = c.args.self in
    let t = c.args.octets.now in
    ids_taken (CompletesLeaf s.leaf) (Tail (Later x.profile x.table x.records) s.last x.demand) _ s.id s.payload t lo hi (octets_each t c.type_inv.octets) c.requires.few c.settled.ensures.future p

pub returns-clause-come : goal.returns-clause-come
returns-clause-come c records m h =
    let t = c.args.octets.now in
    c.settled.ensures.come records (m ++ t) (id_more c.args.context.now c.args.self records m t (octets_each t c.type_inv.octets) c.requires.in_id c.requires.few h)
