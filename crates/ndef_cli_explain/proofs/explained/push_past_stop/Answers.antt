use Rattle.ndef_cli_explain.proofs.explained.push_past_stop.Goals as goal

pub returns-in-Refused : goal.returns-in-Refused
returns-in-Refused c = rw c.in-Refused.is c.push_past_refusal.ensures
