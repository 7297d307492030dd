use Rattle.std.proofs.Common.{rules}
use Rattle.ndef_types.proofs.accepting.accept.Goals as goal

pub refusal_of-requires-clause-short : goal.refusal_of-requires-clause-short
refusal_of-requires-clause-short g c = search rules

pub returns-in-Some-clause-err : goal.returns-in-Some-clause-err
returns-in-Some-clause-err g c = search rules

pub returns-in-None-clause-ok : goal.returns-in-None-clause-ok
returns-in-None-clause-ok g c = search rules
