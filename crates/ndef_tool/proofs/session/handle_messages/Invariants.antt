use Rattle.std.proofs.Common.{◌≡◌, ◌≤◌, ◌-◌, ◌*◌, ◌^◌}
use Rattle.ndef_message.specs.Sources.{Counts}
use Rattle.ndef_tool.proofs.Handling.{HandledSoFar}
use Rattle.ndef_tool.proofs.session.handle_messages.Given as goal

abbrev pub invariant-loop-printed : goal.invariant-loop-printed
invariant-loop-printed g l = record {
  few : l.count ≤ 10000;
  room : l.at ≤ l.count * 2 ^ 49;
  taken : Counts (g.R.Reading.taken l.initial.from) (g.R.Reading.taken l.from) l.at;
  mark : g.K.Sink.has_failed l.sink ≡ g.K.Sink.has_failed l.initial.sink;
  so_far : HandledSoFar l.choice (g.R.Reading.coming l.initial.from) (g.R.Reading.coming l.from)
      (g.K.Sink.written l.initial.sink) (g.K.Sink.written l.sink) (g.K.Sink.has_failed l.initial.sink) l.count l.at;
}

abbrev pub decreases-loop-printed : goal.decreases-loop-printed
decreases-loop-printed g l = 10001 - l.count
