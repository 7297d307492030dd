use Rattle.std.proofs.Common.{Some, refl, rules}
use Rattle.std.specs.Prelude.{codes}
use Rattle.ndef_cli_explain.specs.RecordObjects.{text_object}
use Rattle.ndef_cli_explain.proofs.OutputParts.{pair_parts}
use Rattle.ndef_cli_explain.proofs.record_objects.push_text.Goals as goal

pub returns-in_ok-push_text_object-in-Ok : goal.returns-in_ok-push_text_object-in-Ok
returns-in_ok-push_text_object-in-Ok c =
    let made = text_object c.in-Ok.text in (
      Some made,
      (c.in-Ok.text, c.in-Ok.ensures.1, c.in-Ok.ensures.2, refl),
      search (pair_parts c.args.out.now (codes "value", made), c.in_ok-name-in-Ok.ensures, c.in_ok-push_text_object-in-Ok.ensures, rules),
    )
