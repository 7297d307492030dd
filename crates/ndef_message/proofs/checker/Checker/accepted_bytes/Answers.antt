use Rattle.ndef_message.proofs.Somewhere.{number_of_some}
use Rattle.ndef_message.proofs.Shown as shown
use Rattle.ndef_message.proofs.checker.Checker.accepted_bytes.Goals as goal

pub returns-in-Refused-clause-accepted : goal.returns-in-Refused-clause-accepted
returns-in-Refused-clause-accepted g c =
    λ front given point x. shown.accepted_before c.format_laws.ensures.laws c.args.self.now c.format_laws.ensures.range c.in-Refused.refusal c.in-Refused.is front given point x.1

pub returns-in-Refused-clause-bound : goal.returns-in-Refused-clause-bound
returns-in-Refused-clause-bound g c =
    number_of_some _ _ _ c.args.self.now.led (shown.refused_bounded c.format_laws.ensures.laws c.args.self.now c.format_laws.ensures.range c.in-Refused.refusal c.in-Refused.is)

pub returns-in_default : goal.returns-in_default
returns-in_default g c =
    let laws = c.format_laws.ensures in
    let s = c.args.self.now in
    record {
      accepted = λ front given point x. shown.accepted_all laws.laws s laws.range front given point x.0 (shown.standing laws.laws s laws.range c.in_default.not-Refused front given point x.1);
      bound = number_of_some _ _ _ s.led (shown.taken_bounded laws.laws s laws.range c.in_default.not-Refused);
    }
