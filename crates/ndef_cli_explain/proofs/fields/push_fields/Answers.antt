use Rattle.std.proofs.Common.{◌∙◌, ◌∷◌, [], ap, ap₂, subst, sym}
use Rattle.ndef_cli_explain.specs.Fields.{PlacesFit, field_object, field_objects, field_text, field_texts, octets_of, with_fields}
use Rattle.ndef_cli_explain.specs.Forms.{style_form}
use Rattle.ndef_cli_explain.specs.Meanings.{whole_of}
use Rattle.ndef_cli_explain.specs.Outputs.{with_either}
use Rattle.ndef_cli_explain.specs.Wordings.{wording_after}
use Rattle.ndef_cli_explain.proofs.OutputParts.{either_more, either_none}
use Rattle.ndef_cli_explain.proofs.fields.push_fields.Goals as goal

pub loop-field-preserved : goal.loop-field-preserved
loop-field-preserved c =
    let i = c.loop-field.invariant in
    let form = style_form c.args.style in
    let steps = c.in-Some.ensures.steps in
    let at = c.args.at in
    let bytes = c.args.parsed.bytes.now in
    let wording = c.loop-field.wording in
    let field = c.in-Some.field in
    let after = wording_after wording field.name (octets_of bytes field) in
    let rest = c.next.new.self in
    let next = c.after-wording.ensures ∙ ap (λ s. wording_after wording field.name s) c.octets_of-octets.ensures in
    let pushed = c.in_ok-push_field.ensures
    ∙ ap₂ (λ n s. with_either form c.loop-field.out (field_text wording at field n s) (field_object wording at field n s ∷ [])) c.whole_of.ensures c.octets_of-octets.ensures in
    record {
      same = ap (λ w. with_fields form c.push_field.new.out w at bytes rest) next ∙ ap (λ o. with_fields form o after at bytes rest) pushed
          ∙ sym (either_more form c.loop-field.out (field_text wording at field (whole_of bytes field) (octets_of bytes field)) (field_texts after at bytes rest) (field_object wording at field (whole_of bytes field) (octets_of bytes field) ∷ []) (field_objects after at bytes rest))
          ∙ sym (ap (with_fields form c.loop-field.out wording at bytes) steps) ∙ i.same;
      fit = (subst (PlacesFit c.args.at) steps i.fit).1;
    }

pub returns : goal.returns
returns c =
    let form = style_form c.args.style in
    sym (either_none form c.loop-field.out) ∙ sym (ap (with_fields form c.loop-field.out c.loop-field.wording c.args.at c.args.parsed.bytes.now) c.in-None.ensures.steps.0)
    ∙ c.loop-field.invariant.same
