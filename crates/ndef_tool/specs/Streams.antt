-- The bytes that a run reads and writes.
use Rattle.ndef_message.specs.States.{SinkState, SourceState, sink_state, source_state}
use Rattle.ndef_message.specs.declared.sink.Sink.{Ghosts as SinkOf}
use Rattle.ndef_message.specs.declared.source.Source.{Ghosts as SourceOf}

-- the source of the input, and the sink of the output
pub record Streams : Type 0 where
  pub source : SourceState
  pub output : SinkState

-- what a contract sees of them
abbrev pub streams : {S K : Type 0} (source : SourceOf S) (output : SinkOf K) → S → K → Streams
streams source output s k = record { source = source_state source s; output = sink_state output k }
