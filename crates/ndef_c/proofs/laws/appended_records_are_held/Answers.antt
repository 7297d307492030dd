use Rattle.ndef_c.proofs.Growing.{first_held, others_held}
use Rattle.ndef_c.proofs.laws.appended_records_are_held.Goals as goal

pub returns : goal.returns
returns c = record { first = first_held; others = others_held }
