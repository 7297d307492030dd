use Rattle.std.proofs.Common.{◌∙◌, ap, true}
use Rattle.clap.specs.Simple.{app_of_fields}
use Rattle.clap.specs.Words.{App}
use Rattle.ndef_cli_make.proofs.command.empty_command.Goals as goal

pub returns-clause-app : goal.returns-clause-app
returns-clause-app c =
    let unnamed = ap app_of_fields c.no_binary_name.ensures ∙ ap (λ (x : App). record x { top = record x.top { no_binary_name = true } }) c.new.ensures.app in
    let asking = ap app_of_fields c.subcommand_required.ensures ∙ ap (λ (x : App). record x { top = record x.top { subcommand_required = true } }) unnamed in
    let unflagged = ap app_of_fields c.disable_help_flag.ensures ∙ ap (λ (x : App). record x { top = record x.top { disable_help_flag = true } }) asking in
    ap app_of_fields c.disable_help_subcommand.ensures ∙ ap (λ (x : App). record x { top = record x.top { disable_help_subcommand = true } }) unflagged
