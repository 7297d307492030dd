use Rattle.ndef_cli_explain.proofs.faults.push_hex_fault.Goals as goal

pub returns-in-Odd : goal.returns-in-Odd
returns-in-Odd c = rw c.in-Odd.is c.push_named_fault.ensures
