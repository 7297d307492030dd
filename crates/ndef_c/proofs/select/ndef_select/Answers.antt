use Rattle.std.proofs.Common.{rules}
use Rattle.ndef_c.proofs.select.ndef_select.Goals as goal

pub returns-clause-select : goal.returns-clause-select
returns-clause-select c = λ _. c.select_at.ensures _ (c.accepts.ensures.payload (search (rules, c.if-not-accepts.false)))
