use Rattle.std.proofs.Common.{◌≡◌, ◌+◌, ◌-◌, ◌<◌, ◌≤◌, ◌^◌, drop, length}
use Rattle.ndef_message.specs.States.{sink_state}
use Rattle.ndef_cli_explain.specs.Forms.{look_values}
use Rattle.ndef_cli_explain.proofs.MessageTexts.{HasSent}
use Rattle.ndef_cli_explain.proofs.sending.send_messages.Given as goal

abbrev pub invariant-loop-at : goal.invariant-loop-at
invariant-loop-at g l = record {
  sent : HasSent (look_values l.look) l.input l.number l.at (sink_state g.K.Sink l.initial.sink) (sink_state g.K.Sink l.sink);
  rest : l.rest ≡ drop l.at l.input;
  size : l.at + length l.rest ≡ length l.input;
  numbers : l.number ≤ l.at + 1;
  size_is : l.size ≡ length l.input;
  fits : l.size < 2 ^ 64;
}

abbrev pub decreases-loop-at : goal.decreases-loop-at
decreases-loop-at g l = l.size - l.at
