use Rattle.std.proofs.Common.{rules, ◌≡◌, true, false}
use Rattle.ndef_nest.specs.Machine.Demands.{is_met}
use Rattle.ndef_nest.proofs.Reaching.{body_head, body_end}
use Rattle.ndef_nest.proofs.phase.after_record.Goals as goal

pub returns-then-not-last-clause-future : goal.returns-then-not-last-clause-future
returns-then-not-last-clause-future c r =
    let l : c.args.last ≡ false = search rules in
    rw l (λ x. x, λ x. x)

pub returns-then-not-last-clause-come : goal.returns-then-not-last-clause-come
returns-then-not-last-clause-come c body records m same none x =
    let l : body.last ≡ false = search rules in
    body_head c.heads_are_of_pieces.ensures.to_pieces c.next_fields_are_exact.ensures.on c.args.context.now body records m none x l

pub returns-then-is_met-clause-future : goal.returns-then-is_met-clause-future
returns-then-is_met-clause-future c r =
    let l : c.args.last ≡ true = search rules in
    let m : is_met c.args.context.now.demand ≡ true = search rules in
    rw l (λ x. (m, x), λ x. x.1)

pub returns-then-is_met-clause-come : goal.returns-then-is_met-clause-come
returns-then-is_met-clause-come c body records m same none x =
    let l : body.last ≡ true = search rules in
    body_end c.heads_are_of_pieces.ensures.to_pieces c.next_fields_are_exact.ensures.on c.args.context.now body records m none x l

pub returns-else-is_met-clause-future : goal.returns-else-is_met-clause-future
returns-else-is_met-clause-future c r =
    let l : c.args.last ≡ true = search rules in
    let m : is_met c.args.context.now.demand ≡ false = search rules in
    rw (l, m) (λ x. absurd x, λ x. absurd (let q = x.0 in cc))
