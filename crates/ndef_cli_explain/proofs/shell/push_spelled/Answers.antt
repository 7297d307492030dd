use Rattle.std.proofs.Common.{◌≡◌, ◌∙◌, ◌++◌, ap, append_assoc}
use Rattle.std.specs.Prelude.{codes}
use Rattle.ndef_cli.specs.Quoting.{Text}
use Rattle.ndef_cli_explain.specs.Shell.{program}
use Rattle.ndef_cli_explain.proofs.RecoverySteps.{on_ok}
use Rattle.ndef_cli_explain.proofs.shell.push_spelled.Goals as goal

regroup : (o p a f b : Text) → (((o ++ p) ++ a) ++ f) ++ b ≡ o ++ (p ++ a ++ f ++ b)
regroup o p a f b = simp append_assoc

pub returns : goal.returns
returns c =
    let a = codes " --hex --raw" in
    let b = codes " | " in
    let file = c.args.file.now in
    on_ok (λ e.
    e ∙ ap (λ t. t ++ b) (c.in_ok-extend-2.ensures.ok ∙ ap (λ t. t ++ file) (c.in_ok-extend.ensures.ok ∙ ap (λ t. t ++ a) c.in_ok-push_program.ensures))
    ∙ regroup c.args.line.now program a file b) c.extend-3.result c.extend-3.ensures.ok
