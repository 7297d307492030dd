use Rattle.ndef_message.specs.Machine.Streams.{bytes_shown}
use Rattle.ndef_message.proofs.Readers.{Shows-kept, left_keeps, left_kept}
use Rattle.ndef_message.proofs.std_source.StdSource.refill.Goals as goal

pub returns-in-Ok-clause-keeps : goal.returns-in-Ok-clause-keeps
returns-in-Ok-clause-keeps g c =
    let s = c.args.self.now in
    left_kept (g.R.Read.remaining s.reader) _ (g.R.BufRead.consumable_len s.reader) s.fresh (bytes_shown s) s.pending c.in-Ok.ensures.keeps

pub returns-in-Ok-clause-shows : goal.returns-in-Ok-clause-shows
returns-in-Ok-clause-shows g c =
    let s = c.args.self.now in
    Shows-kept _ _ _ (left_keeps (g.R.Read.remaining s.reader) (g.R.BufRead.consumable_len s.reader) s.fresh (bytes_shown s) s.pending) c.in-Ok.ensures.shows
