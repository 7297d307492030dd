use Rattle.std.proofs.lemmas.Result.{on_ok_weaker}
use Rattle.ndef_message.specs.Machine.Streams.{bytes_shown}
use Rattle.ndef_message.proofs.Readers.{settled}
use Rattle.ndef_message.proofs.std_source.StdSource.into_inner.Goals as goal

pub returns-clause-following : goal.returns-clause-following
returns-clause-following g c =
    let s = c.args.self in
    on_ok_weaker _ (settled (g.R.Read.remaining s.reader) _ (g.R.BufRead.consumable_len s.reader) s.fresh (bytes_shown s) s.pending) c.consume_pending-settled.ensures.keeps
