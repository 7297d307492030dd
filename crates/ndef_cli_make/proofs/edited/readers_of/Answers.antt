use Rattle.std.proofs.Common.{◌≡◌, ◌∙◌, rules, sym}
use Rattle.std.specs.Prelude.{count_by}
use Rattle.ndef_cli_make.specs.Asked.{asked_part}
use Rattle.ndef_cli_make.specs.Editing.{edit_map, passes}
use Rattle.ndef_cli_make.specs.Inputs.{is_reader}
use Rattle.ndef_cli_make.proofs.Edits.{count_in}
use Rattle.ndef_cli_make.proofs.edited.readers_of.Goals as goal

pub returns-clause-value : goal.returns-clause-value
returns-clause-value c =
    let count : c.count.result ≡ count_by (λ edit. passes is_reader (edit_map asked_part edit)) c.args.edits.now = search rules in
    count ∙ sym (count_in is_reader (edit_map asked_part) c.args.edits.now)
