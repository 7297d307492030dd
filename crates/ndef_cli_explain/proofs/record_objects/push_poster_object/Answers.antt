use Rattle.std.proofs.Common.{refl, rules, ◌∙◌, ◌∷◌, []}
use Rattle.std.specs.Prelude.{codes, map}
use Rattle.serde_json.specs.Data.{string}
use Rattle.ndef_cli_explain.specs.Outputs.{array_of}
use Rattle.ndef_cli_explain.specs.RecordObjects.{poster_object, text_object}
use Rattle.ndef_cli_explain.proofs.OutputParts.{object_parts, pair_parts}
use Rattle.ndef_cli_explain.proofs.record_objects.push_poster_object.Goals as goal

pub returns : goal.returns
returns c =
    let text = c.as_bytes.ensures.value ∙ c.text.ensures.value in
    let texts = c.in_ok-texts.texts in
    let uri = c.in_ok-uri.uri in (
      poster_object texts uri,
      (texts, uri, c.in_ok-texts.ensures.value, c.in_ok-uri.ensures, refl),
      search (
        object_parts c.args.out.now ((codes "titles", array_of (map text_object texts)) ∷ (codes "uri", string uri) ∷ []),
        pair_parts,
        text,
        c.in_ok-begin.ensures,
        c.in_ok-name.ensures,
        c.in_ok-push_text_array.ensures,
        c.in_ok-string_member.ensures,
        c.in_ok-end.ensures,
        rules,
      ),
    )
