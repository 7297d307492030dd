use Rattle.ndef_cli_explain.proofs.refused_record.records_in.Goals as goal

pub returns-clause-count : goal.returns-clause-count
returns-clause-count c = let w = c.whole_pieces.ensures.wholes in (c.whole_pieces.result.rest.now, w.whole, w.records)
