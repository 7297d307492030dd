use Rattle.ndef_cli_explain.proofs.explaining.push_stop.Goals as goal

pub returns-in-Refused : goal.returns-in-Refused
returns-in-Refused c = rw c.in-Refused.is c.push_first_refusal.ensures
