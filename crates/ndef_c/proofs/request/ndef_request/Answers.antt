use Rattle.std.proofs.Common.{rules}
use Rattle.ndef_c.proofs.request.ndef_request.Goals as goal

pub returns-clause-request : goal.returns-clause-request
returns-clause-request c = λ _. c.request_at.ensures _ (c.accepts.ensures.payload (search (rules, c.if-not-accepts.false)))
