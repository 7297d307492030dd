use Rattle.std.proofs.Common.{Some, rules}
use Rattle.std.specs.Prelude.{codes}
use Rattle.ndef_cli_explain.proofs.OutputParts.{pair_parts}
use Rattle.ndef_cli_explain.proofs.record_objects.push_poster.Goals as goal

pub returns-in_ok-push_poster_object-in-Ok : goal.returns-in_ok-push_poster_object-in-Ok
returns-in_ok-push_poster_object-in-Ok c =
    let adds = c.in_ok-push_poster_object-in-Ok.ensures in (
      Some adds.0,
      (c.in-Ok.poster, c.in-Ok.ensures.1, c.in-Ok.ensures.2, adds.1),
      search (pair_parts c.args.out.now (codes "value", adds.0), c.in_ok-name-in-Ok.ensures, adds.2, rules),
    )
