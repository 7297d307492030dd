use Rattle.ndef_format.specs.Kinds.{kind_of}
use Rattle.ndef_lang.proofs.leaf.LeafRecordLanguage.step.Goals as goal

pub returns-clause-reached : goal.returns-clause-reached
returns-clause-reached c = λ tnf name. c.step.ensures.reached (kind_of tnf name)

pub returns-clause-reason : goal.returns-clause-reason
returns-clause-reason c = λ tnf name. c.step.ensures.reason (kind_of tnf name)
