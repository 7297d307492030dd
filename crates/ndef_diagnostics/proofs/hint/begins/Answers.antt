use Rattle.std.proofs.Common.{map, rules}
use Rattle.ndef_format.specs.Messages.{run_record}
use Rattle.ndef_diagnostics.proofs.hint.begins.Goals as goal

pub returns-in-Ok : goal.returns-in-Ok
returns-in-Ok c =
    let v = c.in-Ok.field-0 in
    let e = c.in-Ok.ensures.message in
    (λ t. (v.taken, (map run_record v.runs, e.1.0)), λ h. search rules)

pub returns-in-Err : goal.returns-in-Err
returns-in-Err c =
    let e = c.in-Err.ensures.refused in
    (λ t. search rules, λ h. absurd (c.places_are_exact.ensures.no_prefix c.args.limits c.args.bytes.now c.in-Err.field-0.at h.0 e.place h.1))
