use Rattle.std.proofs.Common.{subst, sym}
use Rattle.ndef_fields.specs.Reports.{IsMessageFront}
use Rattle.ndef_c.proofs.FieldChecks.{front_viable}
use Rattle.ndef_c.proofs.fields.checked_front.Goals as goal

pub returns-clause-viable : goal.returns-clause-viable
returns-clause-viable c =
    subst IsMessageFront (sym c.split_at.ensures.front)
    (front_viable c.args.limits c.args.bytes.now c.check_in-checked.result c.check_in-checked.new.out c.check_in-checked.ensures)
