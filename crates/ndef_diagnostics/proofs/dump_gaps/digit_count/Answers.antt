use Rattle.ndef_diagnostics.specs.Dumps.{line_digits}
use Rattle.ndef_diagnostics.proofs.Filled.{digits_counted}
use Rattle.ndef_diagnostics.proofs.dump_gaps.digit_count.Goals as goal

pub returns : goal.returns
returns c = digits_counted (line_digits c.args.form c.args.line.now) _ _ c.put_line.result c.put_line.ensures
