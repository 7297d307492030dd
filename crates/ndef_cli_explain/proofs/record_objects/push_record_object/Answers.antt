use Rattle.std.proofs.Common.{◌∙◌, ◌∷◌, [], ap, ap₂, refl, rules, subst}
use Rattle.ndef_format.specs.Kinds.{kind_of}
use Rattle.ndef_format.specs.Messages.{run_record}
use Rattle.ndef_format.specs.Records.{code}
use Rattle.ndef_cli_explain.specs.RecordObjects.{IsRecordValue, record_object, record_pairs}
use Rattle.ndef_cli_explain.proofs.OutputParts.{object_parts}
use Rattle.ndef_cli_explain.proofs.record_objects.push_record_object.Goals as goal

pub returns : goal.returns
returns c =
    let i = run_record c.args.item.now in
    let puts = c.in_ok-push_value.ensures in
    let value = puts.0 in
    let payload = c.as_slice.ensures.value ∙ c.in_ok-payload.ensures.ok in
    let kind = c.of-kind.ensures ∙ ap₂ kind_of c.tnf.ensures.value c.kind.ensures in
    let size = c.from.ensures ∙ c.length.ensures in
    let format = c.from-2.ensures ∙ c.code.ensures.value ∙ ap code c.tnf-2.ensures.value in (
      record_object c.args.number i value ∷ [],
      (value, subst (λ k. IsRecordValue k i.payload value) kind (subst (λ s. IsRecordValue c.of-kind.result s value) payload puts.1), refl),
      search (
        object_parts c.args.out.now (record_pairs c.args.number i value),
        size,
        format,
        c.id.ensures,
        c.kind-2.ensures,
        c.in_ok-begin.ensures,
        c.in_ok-quoted_member.ensures,
        c.in_ok-number_member.ensures,
        c.in_ok-number_member-2.ensures,
        c.in_ok-number_member-3.ensures,
        c.in_ok-quoted_member-2.ensures,
        puts.2,
        c.in_ok-end.ensures,
        rules,
      ),
    )
