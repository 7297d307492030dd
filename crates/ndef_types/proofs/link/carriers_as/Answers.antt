use Rattle.std.proofs.Common.{subst, rules, Some}
use Rattle.std.specs.Prelude.{option_map}
use Rattle.ndef_types.specs.Contents.{IsFirstOf}
use Rattle.ndef_types.specs.Links.{IsHandoverRecord}
use Rattle.ndef_types.proofs.link.carriers_as.Goals as goal

pub returns-in-Some-clause-links : goal.returns-in-Some-clause-links
returns-in-Some-clause-links c = search rules

pub returns-in-Some-clause-memory : goal.returns-in-Some-clause-memory
returns-in-Some-clause-memory c = λ e. (
  c.in-Some.handover.now,
  subst (λ items. IsFirstOf IsHandoverRecord items (Some c.in-Some.handover.now)) c.records.ensures.value
      (subst (λ o. IsFirstOf IsHandoverRecord c.records.result.now (option_map (λ r. r.now) o)) c.in-Some.is c.first_handover.ensures),
  c.links_of_handover.ensures.memory e,
)
