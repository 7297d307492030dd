use Rattle.ndef_cli_explain.proofs.Referring.{near_links}
use Rattle.ndef_cli_explain.proofs.references.push_references_of.Goals as goal

pub push_references-requires : goal.push_references-requires
push_references-requires c = near_links c.args.message.now.profile c.args.message.now.runs c.in-Ok.links c.in-Ok.ensures.links c.items-few.ensures.few
