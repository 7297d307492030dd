use Rattle.std.proofs.Common.{◌≡◌, ◌∙◌, ◌++◌, ap, append_assoc}
use Rattle.std.specs.Prelude.{decimal}
use Rattle.ndef_cli.specs.Quoting.{Text}
use Rattle.ndef_cli_explain.proofs.RecoverySteps.{on_ok}
use Rattle.ndef_cli_explain.proofs.reporting.push_dump_fault.Goals as goal

regroup : (o a d n : Text) → ((o ++ a) ++ d) ++ n ≡ o ++ (a ++ d ++ n)
regroup o a d n = simp append_assoc

pub returns : goal.returns
returns c =
    let a = c.args.fault.now in
    let d = decimal c.args.line in
    let n = c.args.end.now in
    on_ok (λ e. e ∙ ap (λ t. t ++ n) (c.in_ok-push_number.ensures ∙ ap (λ t. t ++ d) c.in_ok-extend.ensures.ok) ∙ regroup c.args.text.now a d n)
    c.extend-2.result c.extend-2.ensures.ok
