use Rattle.ndef_message.proofs.Accepting.{none_taken}
use Rattle.ndef_message.proofs.OpenRuns.{chunks_are_reachable}
use Rattle.ndef_message.proofs.state.State.take_chunks.Goals as goal

pub returns-then-not-is_at_chunk-clause-onward : goal.returns-then-not-is_at_chunk-clause-onward
returns-then-not-is_at_chunk-clause-onward g c = none_taken _

pub returns-then-taken-gt0-clause-onward : goal.returns-then-taken-gt0-clause-onward
returns-then-taken-gt0-clause-onward g c =
    let laws = c.format_laws.ensures in
    let old = c.args.self.now in
    let found = c.accepted_chunks-taken in
    chunks_are_reachable laws.laws g.L.RecordLanguage c.args.limits.now laws.range old c.advance_past_chunks.new.self found.result.1 _ (g.met.L.RecordLanguage.future_octets old.payload) (c.is_at_chunk.ensures c.if-not-is_at_chunk.false)
    found.ensures.chunks c.advance_past_chunks.ensures
