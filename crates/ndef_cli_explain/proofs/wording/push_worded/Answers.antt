use Rattle.std.proofs.Common.{◌∙◌, ap, sym}
use Rattle.ndef_cli_explain.specs.Wordings.{worded_utf8}
use Rattle.ndef_cli_explain.proofs.Worded.{worded_bytes, worded_text}
use Rattle.ndef_cli_explain.proofs.wording.push_worded.Goals as goal

pub returns-in-Ok : goal.returns-in-Ok
returns-in-Ok c =
    let text = c.in-Ok.ensures.cases in
    rw (worded_text c.args.utf8 c.args.octets.now c.if-not-utf8.false text.1 ∙ ap worded_utf8 (sym text.0)) c.push_utf8.ensures

pub returns-in-Err : goal.returns-in-Err
returns-in-Err c = rw (worded_bytes c.args.utf8 c.args.octets.now c.in-Err.ensures.cases.0) c.push_quoted-in-Err.ensures
