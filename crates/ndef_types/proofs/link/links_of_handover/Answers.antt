use Rattle.std.proofs.Common.{◌∙◌}
use Rattle.ndef_format.specs.Kinds.{kind_of}
use Rattle.ndef_types.proofs.HandoverLemmas.{refused_links}
use Rattle.ndef_types.proofs.link.links_of_handover.Goals as goal

pub returns-in-Err-clause-links : goal.returns-in-Err-clause-links
returns-in-Err-clause-links c =
    refused_links c.args.profile c.args.outer.now c.args.handover.now c.of-kind.result c.payload.result.now c.in-Err.refusal
    (c.of-kind.ensures ∙ (λ j. kind_of (c.tnf.ensures.value j) (c.kind.ensures.value j))) c.payload.ensures.value c.in-Err.ensures.err
