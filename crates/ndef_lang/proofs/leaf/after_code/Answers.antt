use Rattle.ndef_lang.proofs.CodeLemmas.{code_goes_on, code_steps}
use Rattle.ndef_lang.proofs.leaf.after_code.Goals as goal

pub returns-clause-front : goal.returns-clause-front
returns-clause-front c = code_steps c.args.bytes.now c.from-length.result c.in-len1-up.len_at_least c.if-status-ge64.false c.from-length.ensures c.if-rest-length.false (c.is_ascii.ensures c.if-not-is_ascii.false)

pub returns-clause-goes : goal.returns-clause-goes
returns-clause-goes c = code_goes_on c.args.bytes.now c.from-length.result c.in-len1-up.len_at_least c.if-status-ge64.false c.from-length.ensures c.if-rest-length.false
