use Rattle.std.proofs.Common.{◌≡◌, ◌∙◌, ◌++◌, ap, append_assoc}
use Rattle.std.specs.Prelude.{codes, decimal}
use Rattle.ndef_cli.specs.Quoting.{Text}
use Rattle.ndef_cli_explain.proofs.RecoverySteps.{on_ok}
use Rattle.ndef_cli_explain.proofs.refusals.push_sound_line.Goals as goal

regroup : (o a d b e n : Text) → ((((o ++ a) ++ d) ++ b) ++ e) ++ n ≡ o ++ (a ++ d ++ b ++ e ++ n)
regroup o a d b e n = simp append_assoc

pub returns : goal.returns
returns c =
    let a = codes "records sound: " in
    let b = codes " of " in
    let d = decimal c.args.sound in
    let e = decimal c.args.all in
    on_ok (λ last.
    last ∙ ap (λ t. t ++ codes "\n") (c.in_ok-push_number-2.ensures ∙ ap (λ t. t ++ e) (c.in_ok-extend-2.ensures.ok ∙ ap (λ t. t ++ b) (c.in_ok-push_number.ensures ∙ ap (λ t. t ++ d) c.in_ok-extend.ensures.ok)))
    ∙ regroup c.args.line.now a d b e (codes "\n")) c.extend-3.result c.extend-3.ensures.ok
