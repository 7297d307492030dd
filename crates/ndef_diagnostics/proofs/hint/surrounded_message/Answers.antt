use Rattle.ndef_diagnostics.proofs.Tests.{if_none_weaker}
use Rattle.ndef_diagnostics.proofs.hint.surrounded_message.Goals as goal

pub returns-then-is_surrounded-clause-none : goal.returns-then-is_surrounded-clause-none
returns-then-is_surrounded-clause-none c = if_none_weaker c.message_near.result (λ none place a. none place a.1) c.message_near.ensures.none
