use Rattle.std.proofs.Common.{◌∙◌, ◌∷◌, ◌++◌, [], ap, sym}
use Rattle.std.specs.Prelude.{codes}
use Rattle.std.proofs.lemmas.List.Sums.{fold-append}
use Rattle.serde_json.specs.Data.{string}
use Rattle.ndef_cli_explain.specs.Forms.{name_of}
use Rattle.ndef_cli_explain.specs.Messages.{file_pairs}
use Rattle.ndef_cli_explain.specs.Outputs.{Pair, number_value, with_pair, with_pairs}
use Rattle.ndef_cli_explain.proofs.RecoverySteps.{on_ok}
use Rattle.ndef_cli_explain.proofs.OutputParts.{line_done}
use Rattle.ndef_cli_explain.proofs.faults.push_line_fault.Goals as goal

pub returns : goal.returns
returns c =
    let files = file_pairs (name_of c.args.file) in
    let fault : Pair = (codes "fault", string c.args.fault.now) in
    let line : Pair = (codes "line", number_value c.args.number) in
    let begun = c.begin_line.new.self in
    let members = c.in_ok-number_member.ensures ∙ ap (λ o. with_pair o line) (c.in_ok-push_file.ensures ∙ ap (λ o. with_pairs o files) c.in_ok-string_member.ensures)
    ∙ sym (fold-append with_pair (with_pair begun fault) files (line ∷ [])) in
    on_ok (λ e. line_done c.args.out.now begun _ _ _ [] (fault ∷ (files ++ line ∷ [])) c.in_ok-begin_line.ensures members c.in_ok-end.ensures e)
    c.end-2.result c.end-2.ensures
