use Rattle.std.proofs.Common.{◌∙◌, sym}
use Rattle.std.specs.Prelude.{option_map}
use Rattle.ndef_format.specs.Messages.{run_record}
use Rattle.ndef_cli_explain.specs.Forms.{style_form}
use Rattle.ndef_cli_explain.proofs.JoinedPayloads.{map_some, several, whole}
use Rattle.ndef_cli_explain.proofs.payloads.push_payload.Goals as goal

pub returns-then-is_some : goal.returns-then-is_some
returns-then-is_some c =
    let run = c.args.item.now in
    whole (style_form c.args.style) c.args.number (run_record run) run.initial run.later c.args.out.now (option_map (λ s. s.now) c.whole.result) c.whole.ensures
    (map_some c.whole.result ∙ sym c.is_some.ensures ∙ c.if-is_some.true)

pub returns : goal.returns
returns c =
    let run = c.args.item.now in
    several (style_form c.args.style) c.args.number (run_record run) run.initial run.later c.args.out.now _ (option_map (λ s. s.now) c.whole.result) c.whole.ensures
    (map_some c.whole.result ∙ sym c.is_some.ensures ∙ c.if-is_some.false) c.in_ok-push_joined.ensures
