use Rattle.std.proofs.Common.{refl}
use Rattle.ndef_types.proofs.ContentsLemmas.{request_in_order}
use Rattle.ndef_types.proofs.request.Request.new.Goals as goal

pub invariant_of-result : goal.invariant_of-result
invariant_of-result c = (c.requires, request_in_order c.args.message c.records.result.now c.records.ensures.value c.records.ensures.items c.in-None.ensures)

pub returns-in-None : goal.returns-in-None
returns-in-None c = (refl, request_in_order c.args.message c.records.result.now c.records.ensures.value c.records.ensures.items c.in-None.ensures)
