use Rattle.std.proofs.Common.{rules}
use Rattle.ndef_c.proofs.reasons.ndef_reason_sentence.Goals as goal

pub returns-clause-sentence : goal.returns-clause-sentence
returns-clause-sentence c = search rules
