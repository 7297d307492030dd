use Rattle.ndef_types.proofs.ContentsLemmas.{poster_in_order}
use Rattle.ndef_types.proofs.smart_poster.fault_of.Goals as goal

pub returns-in-Some-first_of : goal.returns-in-Some-first_of
returns-in-Some-first_of c = poster_in_order c.args.records.now c.in-Some-first_of.ensures.0 c.in-Some-first_of.field-0.now c.in_default.ensures c.in-Some-first_of.ensures.1
