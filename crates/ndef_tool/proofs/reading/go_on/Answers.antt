use Rattle.std.proofs.Common.{rules}
use Rattle.ndef_tool.proofs.reading.go_on.Goals as goal

pub returns-then-count-eq-MOST : goal.returns-then-count-eq-MOST
returns-then-count-eq-MOST c = search rules

pub returns : goal.returns
returns c = search rules
