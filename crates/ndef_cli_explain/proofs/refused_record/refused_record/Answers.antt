use Rattle.std.proofs.Common.{◌∙◌, ap, subst}
use Rattle.ndef_format.specs.HeadReasons.{is_set}
use Rattle.ndef_diagnostics.specs.Wholes.{AreWholes}
use Rattle.ndef_cli_explain.proofs.refused_record.refused_record.Goals as goal

pub returns-clause-found : goal.returns-clause-found
returns-clause-found c =
    let ended = c.whole_pieces-ended.result in
    let w = subst (λ x. AreWholes x ended) c.cut.ensures.front c.whole_pieces-ended.ensures.wholes in
    (ended.rest.now, w.whole, w.records, c.is_set.ensures ∙ ap (is_set 6) c.piece_front.ensures.front.header, c.end_within.ensures.end)
