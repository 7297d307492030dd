use Rattle.std.proofs.Common.{◌≡◌}
use Rattle.ndef_message.specs.States.{sink_state}
use Rattle.ndef_cli_explain.specs.Explained.{IsEnd}
use Rattle.ndef_cli_explain.specs.Forms.{look_values}
use Rattle.ndef_cli_explain.proofs.Sent.{shown_as}
use Rattle.ndef_cli_explain.proofs.InputTexts.{end_is}
use Rattle.ndef_cli_explain.proofs.sending.send_end.Goals as goal

pub returns : goal.returns
returns g c =
    shown_as c.args.look.now.in_color (λ t. t ≡ c.as_slice.result.now) (IsEnd (look_values c.args.look.now) c.args.input.now c.args.progress.now)
    (sink_state g.K.Sink c.args.sink.now) (sink_state g.K.Sink c.send_shown.new.sink) c.send_shown.result
    (λ t is. rw is
    (
    end_is (look_values c.args.look.now) c.args.input.now c.args.progress.now _ _ _ c.as_slice.result.now c.new-out.ensures c.requires.rest c.in_ok-push_stop.ensures
    c.in_ok-push_past_stop.ensures c.as_slice.ensures.value
    )) c.send_shown.ensures
