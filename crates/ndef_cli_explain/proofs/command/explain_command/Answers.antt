use Rattle.std.proofs.Common.{◌∙◌, ap, true}
use Rattle.clap.specs.Simple.{app_of_fields}
use Rattle.clap.specs.Words.{App}
use Rattle.clap.specs.declared.builder.command.Command.{Command}
use Rattle.clap.specs.declared.builder.command.Command.TheOpen.{Command-F}
use Rattle.ndef_cli_explain.proofs.command.explain_command.Goals as goal

pub returns : goal.returns
returns c =
    let options = c.in_ok-options_command.ensures in (
      ap app_of_fields c.disable_help_flag.ensures ∙ ap (λ (x : App). record x { top = record x.top { disable_help_flag = true } }) options.0,
      ap (λ (f : Command-F Command). f.has_globals) c.disable_help_flag.ensures ∙ options.1,
    )
