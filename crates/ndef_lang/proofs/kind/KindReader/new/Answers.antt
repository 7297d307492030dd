use Rattle.std.proofs.Common.{rules}
use Rattle.ndef_lang.proofs.kind.KindReader.new.Goals as goal

pub returns-in-WellKnown-clause-kind : goal.returns-in-WellKnown-clause-kind
returns-in-WellKnown-clause-kind c = search rules
