use Rattle.ndef_message.proofs.Shown as shown
use Rattle.ndef_message.proofs.checker.Checker.judge_end.Goals as goal

pub returns-in-Done : goal.returns-in-Done
returns-in-Done g c = λ front given point x. shown.done_deep c.format_laws.ensures.laws c.args.self.now c.format_laws.ensures.range c.in-Done.is front given point x.1

pub returns-in-Refused : goal.returns-in-Refused
returns-in-Refused g c =
    λ front given point x. shown.refused_again c.format_laws.ensures.laws c.args.self.now c.format_laws.ensures.range c.in-Refused.refusal c.in-Refused.is front given point x.1

pub returns-in_default : goal.returns-in_default
returns-in_default g c =
    let laws = c.format_laws.ensures in
    let s = c.args.self.now in
    λ front given point x. shown.unfinished laws.laws s laws.range c.in_default.not-Done front given point x.0 (shown.standing laws.laws s laws.range c.in_default.not-Refused front given point x.1)
