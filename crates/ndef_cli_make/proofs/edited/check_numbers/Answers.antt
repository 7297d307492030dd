use Rattle.std.proofs.Common.{◌≡◌, ◌∙◌, None, Some, map, refl, sym, ap, arith}
use Rattle.std.proofs.lemmas.List.{length-map, take-map}
use Rattle.ndef_cli_make.specs.Editing.{usage_error_at, number_of}
use Rattle.ndef_cli_make.proofs.Edits.{below_more, number_at, number_there, right_past}
use Rattle.ndef_cli_make.proofs.edited.check_numbers.Goals as goal

pub returns-in-Some : goal.returns-in-Some
returns-in-Some c =
    let numbers = map number_of c.args.edits.now in
    let at = c.loop-at.at in (
      at,
      refl,
      number_at c.args.count numbers at c.number.result _ (Some c.in-Some.usage_error) (number_there c.args.edits.now at c.index-edits-at.result c.loop-at-test.true c.index-edits-at.is ∙ ap (λ n. Some n) (sym c.number.ensures))
          (sym (take-map number_of at c.args.edits.now)) c.in-Some.ensures,
      c.loop-at.invariant,
    )

pub loop-at-preserved : goal.loop-at-preserved
loop-at-preserved c =
    let numbers = map number_of c.args.edits.now in
    let at = c.loop-at.at in
    below_more (λ k. usage_error_at c.args.count numbers k ≡ None) at c.loop-at.invariant
    (number_at c.args.count numbers at c.number.result _ None (number_there c.args.edits.now at c.index-edits-at.result c.loop-at-test.true c.index-edits-at.is ∙ ap (λ n. Some n) (sym c.number.ensures))
    (sym (take-map number_of at c.args.edits.now)) c.in_default.ensures)

pub returns : goal.returns
returns c = right_past c.args.count (map number_of c.args.edits.now) c.loop-at.at (omega (arith, length-map c.args.edits.now number_of, c.loop-at-test.false)) c.loop-at.invariant
