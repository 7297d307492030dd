use Rattle.std.specs.Prelude.{codes}
use Rattle.clap.specs.Words.{with_subcommand}
use Rattle.ndef_cli.specs.CommandLine.{reading_app}
use Rattle.ndef_tool.specs.CommandLine.{empty_ndef_app, encode_app}
use Rattle.ndef_tool.proofs.command.ndef_command.Goals as goal

pub returns : goal.returns
returns c =
    let show_app = reading_app (codes "show") in
    let check_app = reading_app (codes "check") in
    let with_show = with_subcommand empty_ndef_app show_app.top in
    let show = c.add_subcommand-command.ensures empty_ndef_app show_app (c.empty_command.ensures.app, c.empty_command.ensures.local) c.reading_command.ensures in
    let check = c.add_subcommand-command-2.ensures with_show check_app show c.reading_command-2.ensures in
    c.add_subcommand.ensures (with_subcommand with_show check_app.top) encode_app check c.encode_command.ensures
