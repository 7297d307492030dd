use Rattle.std.proofs.Common.{◌∙◌, refl, subst, map}
use Rattle.ndef_format.specs.Messages.{run_record}
use Rattle.ndef_format.specs.Kinds.{kind_of}
use Rattle.ndef_format.specs.NestedReasons.{NestReason}
use Rattle.ndef_format.specs.Nested.{IsNest, table_of}
use Rattle.ndef_types.specs.Decoding.{RefusesPayload}
use Rattle.ndef_types.proofs.HandoverLemmas.{refused_links}
use Rattle.ndef_types.proofs.link.links_of_viewed.Goals as goal

pub returns-in-Err-clause-links : goal.returns-in-Err-clause-links
returns-in-Err-clause-links c =
    let v = c.args.outer.now in
    let i = run_record c.args.handover.now in
    let kind = c.of-kind.result in
    refused_links v.profile (map run_record v.runs) i kind i.payload c.in-Err.refusal (c.of-kind.ensures ∙ (λ j. kind_of (c.tnf.ensures.value j) (c.kind.ensures j))) refl
    (subst (λ p. RefusesPayload (IsNest (table_of kind) 65535 p) (NestReason (table_of kind) 65535 p) i.payload c.in-Err.refusal) c.profile-profile.ensures c.in-Err.ensures.err)
