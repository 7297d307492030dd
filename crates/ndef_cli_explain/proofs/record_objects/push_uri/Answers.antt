use Rattle.std.proofs.Common.{◌∙◌, Some, refl, rules}
use Rattle.serde_json.specs.Data.{string}
use Rattle.ndef_cli_explain.proofs.record_objects.push_uri.Goals as goal

pub returns-in_ok-string_member-in-Ok : goal.returns-in_ok-string_member-in-Ok
returns-in_ok-string_member-in-Ok c =
    let uri = c.in-Ok.uri in
    let text = c.as_bytes.ensures.value ∙ c.text.ensures.value in
    (Some (string uri), (uri, c.in-Ok.ensures.1, c.in-Ok.ensures.2, refl), search (text, c.in_ok-string_member-in-Ok.ensures, rules))
