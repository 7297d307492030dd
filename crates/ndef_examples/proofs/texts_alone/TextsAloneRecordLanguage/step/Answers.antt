use Rattle.ndef_examples.specs.ReadAs.{read_type}
use Rattle.ndef_examples.proofs.texts_alone.TextsAloneRecordLanguage.step.Goals as goal

pub returns-clause-reached : goal.returns-clause-reached
returns-clause-reached c = λ tnf name. c.step.ensures.reached (read_type tnf name)

pub returns-clause-reason : goal.returns-clause-reason
returns-clause-reason c = λ tnf name. c.step.ensures.reason (read_type tnf name)
