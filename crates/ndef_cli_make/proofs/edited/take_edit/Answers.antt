use Rattle.std.proofs.Common.{◌≡◌, ◌∙◌, ◌<◌, Some, ap, arith, length, sym}
use Rattle.std.specs.List.{find}
use Rattle.ndef_cli_make.specs.Editing.{names}
use Rattle.ndef_cli_make.proofs.Edits.{found_first, found_none, found_without, other_number}
use Rattle.ndef_cli_make.proofs.Lists.{got_there}
use Rattle.ndef_cli_make.proofs.edited.take_edit.Goals as goal

pub returns-then-names-clause-taken : goal.returns-then-names-clause-taken
returns-then-names-clause-taken c =
    let ps = c.loop-at.edits.items in
    let at = c.loop-at.at in
    let p = c.remove.result in
    let l : at < length ps = omega (arith, c.loop-at-test.true, c.loop-at.invariant.2) in
    let q = c.index.result.now in
    let same : p ≡ q = c.remove.ensures.value ∙ got_there ps at p q l ∙ sym c.index.ensures in
    ap (λ x. Some x) same ∙ sym (found_first (names c.args.number) ps at q l c.index.ensures (sym c.names.ensures ∙ c.if-names.true) c.loop-at.invariant.0)
    ∙ ap (λ v. find (names c.args.number) v.items) c.loop-at.invariant.1

pub returns-then-names-clause-others : goal.returns-then-names-clause-others
returns-then-names-clause-others c other apart =
    let ps = c.loop-at.edits.items in
    let at = c.loop-at.at in
    let q = c.index.result.now in
    let l : at < length ps = omega (arith, c.loop-at-test.true, c.loop-at.invariant.2) in
    ap (find (names other)) c.remove.ensures.items
    ∙ found_without (names other) ps at q l c.index.ensures (other_number c.args.number other q (sym c.names.ensures ∙ c.if-names.true) apart)
    ∙ ap (λ v. find (names other) v.items) c.loop-at.invariant.1

pub loop-at-preserved : goal.loop-at-preserved
loop-at-preserved c =
    let l : c.loop-at.at < length c.loop-at.edits.items = omega (arith, c.loop-at-test.true, c.loop-at.invariant.2) in (
      found_none (names c.args.number) c.loop-at.edits.items c.loop-at.at c.index.result.now l c.index.ensures (sym c.names.ensures ∙ c.if-names.false) c.loop-at.invariant.0,
      c.loop-at.invariant.1,
      c.loop-at.invariant.2,
    )
