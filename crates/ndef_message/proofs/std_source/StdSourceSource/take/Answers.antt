use Rattle.std.proofs.Common.{◌≤◌, length, arith}
use Rattle.ndef_message.specs.Machine.Streams.{bytes_shown}
use Rattle.ndef_message.proofs.Readers.{left_after, length-slice_range, slice_range_more, take_consumes, take_waits}
use Rattle.ndef_message.proofs.std_source.StdSourceSource.take.Goals as goal

pub returns-then-self-clause-bytes : goal.returns-then-self-clause-bytes
returns-then-self-clause-bytes g c =
    let s = c.args.self.now in
    let shown : c.args.count ≤ length (bytes_shown s) = omega (arith, length-slice_range s.copy s.window.start s.window.end (omega arith)) in
    rw (slice_range_more s.copy s.window.start s.window.end c.args.count c.requires)
    (take_consumes (g.R.Read.remaining s.reader) _ (g.R.BufRead.consumable_len s.reader) _ s.fresh (bytes_shown s) s.pending c.args.count c.if-self.true shown c.consume.ensures.bytes)

pub returns-then-self-clause-following : goal.returns-then-self-clause-following
returns-then-self-clause-following g c = λ _ settled. left_after _ _ _ _ _ settled

pub returns-else-self-clause-bytes : goal.returns-else-self-clause-bytes
returns-else-self-clause-bytes g c =
    let s = c.args.self.now in
    let shown : c.args.count ≤ length (bytes_shown s) = omega (arith, length-slice_range s.copy s.window.start s.window.end (omega arith)) in
    rw (slice_range_more s.copy s.window.start s.window.end c.args.count c.requires)
    (take_waits (g.R.Read.remaining s.reader) (g.R.BufRead.consumable_len s.reader) s.fresh (bytes_shown s) s.pending c.args.count c.if-self.false shown)
