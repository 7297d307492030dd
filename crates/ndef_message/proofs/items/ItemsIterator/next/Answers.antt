use Rattle.std.proofs.Common.{rules}
use Rattle.ndef_message.proofs.items.ItemsIterator.next.Goals as goal

pub returns-clause-steps : goal.returns-clause-steps
returns-clause-steps c = search rules
