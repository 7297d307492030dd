use Rattle.std.proofs.Common.{Some, None, refl, subst}
use Rattle.ndef_diagnostics.specs.RecordRemarks.{BeginsWithFew}
use Rattle.ndef_diagnostics.proofs.record_remark.held_remark.Goals as goal

pub returns-in-Some : goal.returns-in-Some
returns-in-Some c = (
  Some c.in-Some.nested,
  subst (λ s. BeginsWithFew s (Some c.in-Some.nested)) c.nested_octets.ensures c.in-Some.ensures,
  c.nested_remark.ensures,
)

pub returns-in-None : goal.returns-in-None
returns-in-None c = (None, subst (λ s. BeginsWithFew s None) c.nested_octets.ensures c.in-None.ensures, refl)
