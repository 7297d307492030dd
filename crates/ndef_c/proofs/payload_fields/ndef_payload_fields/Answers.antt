use Rattle.std.proofs.Common.{subst, ap, ◌∙◌}
use Rattle.ndef_format.specs.Kinds.{kind_of}
use Rattle.ndef_fields.specs.Reports.{ArePayloadFields}
use Rattle.ndef_c.proofs.payload_fields.ndef_payload_fields.Goals as goal

pub returns-clause-fields : goal.returns-clause-fields
returns-clause-fields c = λ _.
    let g = c.give_payload_fields.ensures.fields in
    let same = c.of.ensures ∙ ap (λ t. kind_of t c.args.kind.now) c.in-Some.ensures.some in
    record { reported = g.0; are = subst (λ k. ArePayloadFields k c.args.payload.now g.0) same g.1; gives = g.2 }
