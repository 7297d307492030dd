use Rattle.std.proofs.Common.{rules}
use Rattle.ndef_piece.proofs.ReadBack.{written_is_read}
use Rattle.ndef_piece.proofs.write.write_head.Goals as goal

pub returns-in-Some-clause-read_back : goal.returns-in-Some-clause-read_back
returns-in-Some-clause-read_back c = λ spot m. written_is_read spot c.args.head.now m

pub returns-in-None-clause-read_back : goal.returns-in-None-clause-read_back
returns-in-None-clause-read_back c = λ spot m. written_is_read spot c.args.head.now m

pub returns-in-Some-clause-written : goal.returns-in-Some-clause-written
returns-in-Some-clause-written c = search rules
