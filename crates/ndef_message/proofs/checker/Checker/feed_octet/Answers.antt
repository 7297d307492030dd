use Rattle.std.proofs.Common.{◌∙◌, refl, sym, subst, take, arith}
use Rattle.ndef_format.specs.Limits.{AreInRange}
use Rattle.ndef_message.specs.Machine.Checkers.{CheckerReached}
use Rattle.ndef_message.proofs.Feeding as feeding
use Rattle.ndef_message.proofs.checker.Checker.feed_octet.Goals as goal

pub returns-in-Some-clause-fed : goal.returns-in-Some-clause-fed
returns-in-Some-clause-fed g c front given point x =
    feeding.feeds_answer c.format_laws.ensures.laws c.args.self.now c.format_laws.ensures.range c.args.self.now.limits refl front c.args.bytes.now 0 c.in-Some.answer (sym c.answer.ensures ∙ c.in-Some.is) (omega arith)
    (feeding.sofar_start (CheckerReached c.args.self.now) c.args.bytes.now front given point x)

pub returns-in-Some-answer-clause-fed : goal.returns-in-Some-answer-clause-fed
returns-in-Some-answer-clause-fed g c front given point x =
    let new = c.step-count.new.self in
    let count = c.step-count.result in
    let bytes = c.args.bytes.now in
    let on = c.step-count.ensures.onward front given point x in
    feeding.feeds_answer c.format_laws.ensures.laws new (subst AreInRange (sym c.step-count.ensures.limits) c.format_laws.ensures.range) c.args.self.now.limits c.step-count.ensures.limits front bytes count c.in-Some-answer.answer (sym c.answer-2.ensures ∙ c.in-Some-answer.is) c.step-count.ensures.most
    (feeding.matches_input_on g.L.RecordLanguage new.limits new.state front given point (take count bytes) new.taken on.0 on.1)

pub returns-in-None-clause-fed : goal.returns-in-None-clause-fed
returns-in-None-clause-fed g c front given point x =
    let new = c.step-count.new.self in
    let count = c.step-count.result in
    let bytes = c.args.bytes.now in
    let on = c.step-count.ensures.onward front given point x in
    let some = c.step-count.ensures.some in
    let most = c.step-count.ensures.most in
    let one = c.requires in
    feeding.feeds_more c.format_laws.ensures.laws new (subst AreInRange (sym c.step-count.ensures.limits) c.format_laws.ensures.range) c.args.self.now.limits c.step-count.ensures.limits front bytes count (sym c.answer-2.ensures ∙ c.in-None.is) (omega arith)
    (feeding.matches_input_on g.L.RecordLanguage new.limits new.state front given point (take count bytes) new.taken on.0 on.1)
