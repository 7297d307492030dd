use Rattle.ndef_c.proofs.Handovers.{handover_of}
use Rattle.ndef_c.proofs.links.LinksRecordQuery.message.Goals as goal

pub after_version-requires : goal.after_version-requires
after_version-requires c = (handover_of c.args.self.now.payload.now c.requires.1.0.handover).some
