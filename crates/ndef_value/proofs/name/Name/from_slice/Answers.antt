use Rattle.std.proofs.Common.{rules}
use Rattle.ndef_value.proofs.name.Name.from_slice.Goals as goal

pub returns-in_err-from_slice-clause-too_long : goal.returns-in_err-from_slice-clause-too_long
returns-in_err-from_slice-clause-too_long c = search rules

pub returns-clause-too_long : goal.returns-clause-too_long
returns-clause-too_long c = search rules
