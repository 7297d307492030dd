use Rattle.std.proofs.Common.{◌≡◌, ◌++◌, ◌+◌, length, take, sym, ◌∙◌, ap, subst, arith}
use Rattle.std.proofs.lemmas.List.{take_rest, take-append-drop}
use Rattle.ndef_format.specs.Limits.{AreInRange}
use Rattle.ndef_format.specs.Accepted.{Accepted, IsAccepted}
use Rattle.ndef_format.specs.Refusals.{Refuses}
use Rattle.ndef_lang.specs.StepLaws.{rest, rest_length, take_rests}
use Rattle.ndef_message.proofs.Ended.{deep_given}
use Rattle.ndef_message.proofs.judging.judge_fed.Goals as goal

pub unreachable-requires : goal.unreachable-requires
unreachable-requires g c =
    let input = c.args.input.now in
    let n = c.args.passed.taken in
    let led = c.after_records-checker.ensures.reached in
    let f = c.in-More.ensures.fed (take n input) led.0 led.1 led.2 in
    let k = f.2 in
    let all = take n input ++ rest input n in
    f.1 (subst (λ l. IsAccepted g.L.RecordLanguage.payloads l all) c.in-More.ensures.limits (c.in-Ok.ensures all k.0 k.1 k.2))

pub returns-in-More-clause-refused : goal.returns-in-More-clause-refused
returns-in-More-clause-refused g c =
    let input = c.args.input.now in
    let n = c.args.passed.taken in
    let led = c.after_records-checker.ensures.reached in
    let k = (c.in-More.ensures.fed (take n input) led.0 led.1 led.2).2 in
    let all = take n input ++ rest input n in
    let whole : all ≡ input = ap (λ y. take n input ++ y) (take_rest input n) ∙ take-append-drop n input in
    subst (λ l. Refuses g.L.RecordLanguage.payloads g.L.RecordLanguage.reasons l input c.in-Err.refusal) (c.in-More.ensures.limits ∙ c.after_records-checker.ensures.limits)
    (subst (λ y. Refuses g.L.RecordLanguage.payloads g.L.RecordLanguage.reasons c.feed_tried.new.self.limits y c.in-Err.refusal) whole (c.in-Err.ensures all k.0 k.1 k.2))

pub overflow_add-result : goal.overflow_add-result
overflow_add-result g c =
    let input = c.args.input.now in
    let n = c.args.passed.taken in
    let led = c.after_records-checker.ensures.reached in
    let f = c.in-Done.ensures.fed (take n input) led.0 led.1 led.2 in
    omega (arith, f.0, rest_length input n, c.requires.within)

pub returns-in-Done-clause-within : goal.returns-in-Done-clause-within
returns-in-Done-clause-within g c =
    let input = c.args.input.now in
    let n = c.args.passed.taken in
    let led = c.after_records-checker.ensures.reached in
    let f = c.in-Done.ensures.fed (take n input) led.0 led.1 led.2 in
    omega (arith, f.0, rest_length input n, c.requires.within)

pub returns-in-Done-clause-message : goal.returns-in-Done-clause-message
returns-in-Done-clause-message g c =
    let set = g.L.RecordLanguage.payloads in
    let input = c.args.input.now in
    let n = c.args.passed.taken in
    let led = c.after_records-checker.ensures.reached in
    let f = c.in-Done.ensures.fed (take n input) led.0 led.1 led.2 in
    let own = c.in-Done.ensures.limits ∙ c.after_records-checker.ensures.limits in
    let new = c.feed_tried.new.self in
    let front = take n input ++ take c.in-Done.taken (rest input n) in
    let k = f.2 in
    let accepted : IsAccepted set new.limits front = subst (λ l. IsAccepted set l front) (sym c.in-Done.ensures.limits) f.1 in
    let given = deep_given c.format_laws.ensures.laws g.L.RecordLanguage new.limits (subst AreInRange (sym own) c.format_laws.ensures.range) new.state front k.0 k.1 accepted k.2.1 in
    let here : Accepted set c.args.limits.now k.0 front = subst (λ l. Accepted set l k.0 front) own given in
    (k.0, subst (Accepted set c.args.limits.now k.0) (take_rests input n c.in-Done.taken) here, c.ended_records.ensures front k.0 k.1 k.2)

pub returns-clause-refused : goal.returns-clause-refused
returns-clause-refused g c =
    let input = c.args.input.now in
    let n = c.args.passed.taken in
    let led = c.after_records-checker.ensures.reached in
    let f = c.in-Refused.ensures.fed (take n input) led.0 led.1 led.2 in
    let whole = ap (λ y. take n input ++ y) (take_rest input n) ∙ take-append-drop n input in
    subst (λ l. Refuses g.L.RecordLanguage.payloads g.L.RecordLanguage.reasons l input c.in-Refused.refusal) c.after_records-checker.ensures.limits
    (subst (λ y. Refuses g.L.RecordLanguage.payloads g.L.RecordLanguage.reasons c.after_records-checker.result.limits y c.in-Refused.refusal) whole f.1)
