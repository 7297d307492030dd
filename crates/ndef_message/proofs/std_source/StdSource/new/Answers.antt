use Rattle.ndef_message.proofs.Readers.{left_at_first}
use Rattle.ndef_message.proofs.std_source.StdSource.new.Goals as goal

pub returns-clause-coming : goal.returns-clause-coming
returns-clause-coming g c = left_at_first (g.R.Read.remaining c.args.reader) (g.R.BufRead.consumable_len c.args.reader)
