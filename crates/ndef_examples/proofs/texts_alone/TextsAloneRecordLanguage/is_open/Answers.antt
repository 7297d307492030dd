use Rattle.ndef_examples.specs.ReadAs.{read_type}
use Rattle.ndef_examples.proofs.texts_alone.TextsAloneRecordLanguage.is_open.Goals as goal

pub returns-clause-reached : goal.returns-clause-reached
returns-clause-reached c = λ yes octets are tnf name. c.is_any.ensures.reached yes octets are (read_type tnf name)
