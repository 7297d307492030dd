use Rattle.std.proofs.Common.{◌≡◌, Some, true, rules}
use Rattle.ndef_diagnostics.specs.Dumps.{gap_of, is_star}
use Rattle.ndef_diagnostics.proofs.Filled.{too_often}
use Rattle.ndef_diagnostics.proofs.dump.source_of.Goals as goal

pub returns-in-Some-clause-none : goal.returns-in-Some-clause-none
returns-in-Some-clause-none c =
    let star : is_star c.args.line.now ≡ true = search rules in
    let some : gap_of c.args.form c.args.before.now c.args.next.now ≡ Some c.in-Some.gap = search rules in
    too_often c.args.form c.args.before.now c.args.line.now c.args.next.now c.in-Some.gap star some c.if-gap-gt-MOST_DIGITS.true
