use Rattle.std.proofs.Common.{rules}
use Rattle.ndef_types.proofs.smart_poster.SmartPoster.action.Goals as goal

pub returns-in_err-item : goal.returns-in_err-item
returns-in_err-item c = search rules

pub returns : goal.returns
returns c = search rules
