use Rattle.clap.specs.Words.{with_subcommand}
use Rattle.ndef_cli_make.specs.CommandLine.{carrier_app, external_app, media_app, plain_make_app, record_app}
use Rattle.ndef_cli_make.proofs.command.make_command.Goals as goal

pub returns : goal.returns
returns c =
    let with_record = with_subcommand plain_make_app record_app.top in
    let with_media = with_subcommand with_record media_app.top in
    let given = c.add_subcommand-command.ensures plain_make_app record_app c.plain_make_command.ensures c.record_command.ensures in
    let media = c.add_subcommand-command-2.ensures with_record media_app given c.media_command.ensures in
    let external = c.add_subcommand-command-3.ensures with_media external_app media c.external_command.ensures in
    c.add_subcommand.ensures (with_subcommand with_media external_app.top) carrier_app external c.carrier_command.ensures
