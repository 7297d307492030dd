use Rattle.std.proofs.Common.{◌≡◌, ◌∙◌, ◌++◌, ◌+◌, ◌-◌, ap, arith, drop, length, length-append, sym, take}
use Rattle.std.proofs.lemmas.List.{length-take-le, take-append-drop}
use Rattle.ndef_cli_make.specs.Editing.{kept_from}
use Rattle.ndef_cli_make.proofs.Edits.{placed_before}
use Rattle.ndef_cli_make.proofs.edited.put_all.Goals as goal

pub put_in_place-requires : goal.put_in_place-requires
put_in_place-requires c =
    let start = c.args.records.now.items in
    let old = take c.args.count start in
    let long : length old ≡ c.args.count = length-take-le c.args.count start c.requires.within in
    let is = c.loop-left.invariant.1 old (drop c.args.count start) (sym (take-append-drop c.args.count start)) long in
    let front = length-take-le c.loop-left.left old (omega (arith, long, c.loop-left.invariant.0)) in
    omega (arith, ap length is, length-append (take c.loop-left.left old) (kept_from (c.loop-left.left + 1) c.args.edits.now.items (drop c.loop-left.left old) ++ drop c.args.count start), front, c.loop-left-test.true)

pub loop-left-preserved : goal.loop-left-preserved
loop-left-preserved c =
    let left = c.loop-left.left in
    let next : (left - 1) + 1 ≡ left = omega (arith, c.loop-left-test.true) in (
      omega (arith, c.loop-left.invariant.0),
      λ old added is long. placed_before c.args.edits.now.items old added c.loop-left.records.items c.put_in_place.new.records.items (left - 1) left c.take_edit-edit.result
          (omega (arith, long, c.loop-left.invariant.0)) next (c.take_edit-edit.ensures.taken ∙ c.loop-left.invariant.2 left (omega arith)) (c.loop-left.invariant.1 old added is long) c.put_in_place.ensures,
      λ number l. c.take_edit-edit.ensures.others number (λ same. absurd (omega (arith, same, l, c.loop-left-test.true))) ∙ c.loop-left.invariant.2 number (omega (arith, l)),
    )
