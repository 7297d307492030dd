use Rattle.ndef_lang.specs.declared.leaf.Stage.TheVariants as stages
use Rattle.ndef_lang.proofs.StageLemmas.{plain_goes}
use Rattle.ndef_lang.specs.Machine.LeafLaws.{octets_to_end}
use Rattle.ndef_lang.proofs.only.OctetsOfPayloadType.first.Goals as goal

pub returns-clause-future : goal.returns-clause-future
returns-clause-future g c = octets_to_end g.row.N

pub returns-clause-goes : goal.returns-clause-goes
returns-clause-goes g c = plain_goes g.row.N stages.End (λ u b reason. (λ h. h, λ h. h))
