use Rattle.ndef_types.proofs.link.carriers.Goals as goal

pub returns : goal.returns
returns c = c.carriers_as.ensures
