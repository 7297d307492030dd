use Rattle.ndef_format.specs.Kinds.{kind_of}
use Rattle.ndef_lang.proofs.leaf.LeafRecordLanguage.is_open.Goals as goal

pub returns-clause-reached : goal.returns-clause-reached
returns-clause-reached c = λ yes octets are tnf name. c.is_any.ensures.reached yes octets are (kind_of tnf name)
