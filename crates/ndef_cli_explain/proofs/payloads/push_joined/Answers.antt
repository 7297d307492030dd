use Rattle.std.proofs.Common.{◌∙◌, ap₂, refl, subst}
use Rattle.ndef_fields.specs.Reports.{ArePayloadFields}
use Rattle.ndef_format.specs.Kinds.{kind_of}
use Rattle.ndef_format.specs.Messages.{run_record}
use Rattle.ndef_cli_explain.proofs.payloads.push_joined.Goals as goal

pub returns : goal.returns
returns c =
    let item = run_record c.args.item.now in
    let octets = c.as_slice-bytes.result.now in
    let fields = c.fields_of-fields.result in
    let is = c.as_slice-bytes.ensures.value ∙ c.in_ok-payload.ensures.ok in
    let kind = c.of.ensures ∙ ap₂ kind_of c.tnf.ensures.value c.kind.ensures in (
      record { number = c.args.number; octets = octets; fields = fields },
      (refl, is, subst (λ k. ArePayloadFields k item.payload fields) kind (subst (λ s. ArePayloadFields c.of.result s fields) is c.fields_of-fields.ensures.reported)),
      c.in_ok-push_reported.ensures,
    )
