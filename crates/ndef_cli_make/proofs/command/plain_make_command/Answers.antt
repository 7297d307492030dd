use Rattle.clap.specs.Words.{with_subcommand}
use Rattle.ndef_cli_make.specs.CommandLine.{app_app, empty_make_app, handover_app, poster_app, text_app, uri_app}
use Rattle.ndef_cli_make.proofs.command.plain_make_command.Goals as goal

pub returns : goal.returns
returns c =
    let with_text = with_subcommand empty_make_app text_app.top in
    let with_uri = with_subcommand with_text uri_app.top in
    let text = c.add_subcommand-command.ensures empty_make_app text_app (c.empty_command.ensures.app, c.empty_command.ensures.local) c.text_command.ensures in
    let uri = c.add_subcommand-command-2.ensures with_text uri_app text c.uri_command.ensures in
    let poster = c.add_subcommand-command-3.ensures with_uri poster_app uri c.poster_command.ensures in
    let with_poster = with_subcommand with_uri poster_app.top in
    let handover = c.add_subcommand-command-4.ensures with_poster handover_app poster c.handover_command.ensures in
    c.add_subcommand.ensures (with_subcommand with_poster handover_app.top) app_app handover c.app_command.ensures
