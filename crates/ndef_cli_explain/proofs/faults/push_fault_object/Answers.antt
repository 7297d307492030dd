use Rattle.ndef_cli_explain.proofs.faults.push_fault_object.Goals as goal

pub returns-in-TooLong : goal.returns-in-TooLong
returns-in-TooLong c = rw c.in-TooLong.is c.push_named_fault-in-TooLong.ensures
