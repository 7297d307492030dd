use Rattle.std.proofs.Common.{lit<}
use Rattle.ndef_cli_make.proofs.Words.{word_cut}
use Rattle.ndef_cli_make.proofs.options.cut_at_equals.Goals as goal

pub returns : goal.returns
returns c = word_cut 61 (lit< tt) c.args.word.now c.split_once.result c.split_once.ensures.cases
