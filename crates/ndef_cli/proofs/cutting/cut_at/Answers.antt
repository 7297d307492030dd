use Rattle.std.proofs.Common.{◌==◌}
use Rattle.ndef_cli.specs.CutLaws.{cut_front, cut_parts, uncut_front, uncut_parts}
use Rattle.ndef_cli.proofs.cutting.cut_at.Goals as goal

pub returns-in-Some-clause-before : goal.returns-in-Some-clause-before
returns-in-Some-clause-before c = cut_front (λ x. x == c.args.byte) c.args.text.now c.in-Some.place c.in-Some.ensures

pub returns-in-Some-clause-split : goal.returns-in-Some-clause-split
returns-in-Some-clause-split c = cut_parts (λ x. x == c.args.byte) c.args.text.now c.in-Some.place 0 c.in-Some.ensures

pub returns-in-None-clause-before : goal.returns-in-None-clause-before
returns-in-None-clause-before c = uncut_front (λ x. x == c.args.byte) c.args.text.now c.in-None.ensures

pub returns-in-None-clause-split : goal.returns-in-None-clause-split
returns-in-None-clause-split c = uncut_parts (λ x. x == c.args.byte) c.args.text.now c.in-None.ensures
