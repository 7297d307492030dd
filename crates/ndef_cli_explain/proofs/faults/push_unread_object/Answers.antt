use Rattle.std.proofs.Common.{◌∙◌, ◌++◌, ap, sym}
use Rattle.ndef_cli_explain.specs.Faults.{unread_object}
use Rattle.ndef_cli_explain.specs.Forms.{name_of}
use Rattle.ndef_cli_explain.specs.Outputs.{json_line}
use Rattle.ndef_cli_explain.proofs.RecoverySteps.{on_ok}
use Rattle.ndef_cli_explain.proofs.faults.push_unread_object.Goals as goal

pub returns-in-Words : goal.returns-in-Words
returns-in-Words c =
    on_ok (λ e. e ∙ ap (λ unread. c.args.out.now.text ++ json_line (unread_object (name_of c.args.file) unread)) (sym c.in-Words.is))
    c.push_named_fault.result c.push_named_fault.ensures
