use Rattle.std.proofs.Common.{◌∙◌}
use Rattle.ndef_types.proofs.AlternativeLemmas.{auxiliary_count}
use Rattle.ndef_types.proofs.alternative_parts.AlternativeParts.auxiliary_count.Goals as goal

pub returns-clause-value : goal.returns-clause-value
returns-clause-value c = λ v h. c.from.ensures ∙ auxiliary_count c.after_reference.result.now v.auxiliary v.rest (c.after_reference.ensures.stand v h)
