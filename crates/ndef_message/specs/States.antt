-- The states of a source and of a sink in contracts.
use Rattle.std.specs.Prelude.{ℕ, Bool, List, Option}
pub use Rattle.ndef_message.specs.Sources.{SourceState}
use Rattle.ndef_message.specs.declared.sink.Sink.{Ghosts as SinkOf}
use Rattle.ndef_message.specs.declared.source.Source.{Ghosts as SourceOf}

-- the state of a source in contracts
abbrev pub source_state : {S : Type 0} (source : SourceOf S) → S → SourceState
source_state source s =
    record { coming = source.coming s; taken = source.taken s; failed = source.has_failed s }

-- a sink: the bytes written, where they are known; and whether it has failed
pub record SinkState : Type 0 where
  pub written : Option (List ℕ)
  pub failed : Bool

-- the state of a sink in contracts
abbrev pub sink_state : {K : Type 0} (sink : SinkOf K) → K → SinkState
sink_state sink s = record { written = sink.written s; failed = sink.has_failed s }
