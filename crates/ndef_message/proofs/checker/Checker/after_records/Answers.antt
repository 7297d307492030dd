use Rattle.std.proofs.Common.{[], length, take, sym, subst, arith}
use Rattle.std.proofs.lemmas.Grind.{merely}
use Rattle.ndef_message.specs.Machine.Checkers.{CheckerReached}
use Rattle.ndef_message.specs.Machine.Fronts.{IsReachable}
use Rattle.ndef_message.specs.Machine.Points.{start_point}
use Rattle.ndef_message.proofs.Resumed.{passed_outside, resumed}
use Rattle.ndef_message.proofs.checker.Checker.after_records.Goals as goal

pub advance_past-requires : goal.advance_past-requires
advance_past-requires g c = passed_outside g.L.RecordLanguage.payloads c.args.limits c.args.input.now c.args.passed.taken c.args.passed.place c.requires

pub returns-then-passed-eq0-clause-reached : goal.returns-then-passed-eq0-clause-reached
returns-then-passed-eq0-clause-reached g c =
    subst (λ n. IsReachable (CheckerReached c.start-checker.result) (take n c.args.input.now)) (sym c.if-passed-eq0.true) ([], start_point c.args.limits, c.start-checker.ensures.reached)

pub invariant_of-checker : goal.invariant_of-checker
invariant_of-checker g c =
    let laws = c.format_laws.ensures in
    let start = c.start-checker in
    let r = resumed laws.laws c.args.limits start.result.limits laws.range g.met.L.RecordLanguage.others start.result.state c.advance_past.new.self start.result.taken c.args.input.now c.args.passed.taken c.args.passed.place
    start.ensures.limits start.ensures.reached c.requires (omega arith) c.advance_past.ensures in
    record { led = merely (take c.args.passed.taken c.args.input.now, r.0, r.1, r.2) }

pub returns-clause-reached : goal.returns-clause-reached
returns-clause-reached g c =
    let laws = c.format_laws.ensures in
    let start = c.start-checker in
    resumed laws.laws c.args.limits start.result.limits laws.range g.met.L.RecordLanguage.others start.result.state c.advance_past.new.self start.result.taken c.args.input.now c.args.passed.taken c.args.passed.place
    start.ensures.limits start.ensures.reached c.requires (omega arith) c.advance_past.ensures
