use Rattle.ndef_format.specs.Records.{AreOctets}
use Rattle.ndef_lang.specs.LengthLaws.{lengths_fit, octets_lengths}
use Rattle.ndef_lang.specs.declared.lengths.Lengths.TheVariants.{From}
use Rattle.ndef_lang.specs.StepLaws.{octets_each, steps_octets}
use Rattle.ndef_lang.proofs.opaque.OpaqueRecordLanguage.step_all.Goals as goal

pub returns-clause-steps : goal.returns-clause-steps
returns-clause-steps c = steps_octets c.args.bytes.now c.args._lo c.args._hi (octets_each _ c.type_inv.bytes) c.requires.enough
    ((lengths_fit AreOctets (From 0) c.args._lo c.args._hi octets_lengths).0 c.requires.fits)
