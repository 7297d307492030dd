use Rattle.ndef_format.specs.Kinds.{kind_of}
use Rattle.ndef_nest.proofs.typed.TypedRecordLanguage.step_all.Goals as goal

pub returns-clause-reached : goal.returns-clause-reached
returns-clause-reached c = λ tnf name. c.step_all.ensures.reached (kind_of tnf name)

pub returns-clause-reason : goal.returns-clause-reason
returns-clause-reason c = λ less tnf name. c.step_all.ensures.reason less (kind_of tnf name)
