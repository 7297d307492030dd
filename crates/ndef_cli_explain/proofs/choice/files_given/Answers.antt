use Rattle.std.proofs.Common.{◌∙◌, ap, map, Some, None}
use Rattle.std.proofs.lemmas.Result.{IfOk-weaker}
use Rattle.clap.specs.Words.{found_of}
use Rattle.ndef_cli_explain.proofs.Asking.{files_given}
use Rattle.ndef_cli_explain.proofs.choice.files_given.Goals as goal

pub returns-in-Some : goal.returns-in-Some
returns-in-Some c =
    IfOk-weaker c.list_of.result _ _
    (λ files e. ap (map (λ file. file.now)) e ∙ files_given (found_of c.args.matches.now) (Some c.in-Some.names) c.in-Some.ensures) c.list_of.ensures

pub returns-in-None : goal.returns-in-None
returns-in-None c = ap (map (λ file. file.now)) c.new.ensures.items ∙ files_given (found_of c.args.matches.now) None c.in-None.ensures
