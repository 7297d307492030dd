use Rattle.std.proofs.Common.{◌∙◌, ap, arith, drop, length, length-drop, subst, sym}
use Rattle.ndef_cli_explain.specs.Explaining.{Appends}
use Rattle.ndef_cli_explain.specs.Forms.{style_form}
use Rattle.ndef_cli_explain.specs.Recovery.{IsNext, as_read}
use Rattle.ndef_cli_explain.proofs.RecoverySteps.{clear_in, keeps_last, keeps_next, same_later, whole_copy}
use Rattle.ndef_cli_explain.proofs.recovery.push_recovery.Goals as goal

pub set_begin-requires-clause-clear : goal.set_begin-requires-clause-clear
set_begin-requires-clause-clear c =
    let i = c.loop-at.invariant in
    let from = c.loop-at.from in
    let input = c.args.input.now in
    let same = ap (drop from.at) c.as_mut_slice.ensures.value ∙ i.rest in
    λ some. clear_in from.records from.at c.as_mut_slice.result.now input same (sym c.is_over.ensures ∙ c.loop-at-test.true) some

pub loop-at-preserved : goal.loop-at-preserved
loop-at-preserved c =
    let i = c.loop-at.invariant in
    let from = c.loop-at.from in
    let next = c.in_ok-from.from in
    let form = style_form c.args.look.now.style in
    let limits = c.args.look.now.source.limits in
    let input = c.args.input.now in
    let items = c.loop-at.copy.items in
    let old = c.as_mut_slice.result.now in
    let new = c.set_begin.new.octets in
    let over = sym c.is_over.ensures ∙ c.loop-at-test.true in
    let value = c.as_mut_slice.ensures.value in
    let size = c.set_begin.ensures.length ∙ ap length value in
    let whole = whole_copy c.loop-at.copy.len new items size (sym (ap length value) ∙ c.as_mut_slice.ensures.len) in
    let read = c.cut.ensures.back ∙ ap (drop from.at) (c.as_slice.ensures.value ∙ whole) ∙ c.set_begin.ensures.read ∙ ap (λ x. as_read from.records (drop from.at x)) value ∙ ap (as_read from.records) i.rest in
    let bytes = c.cut-in-loop-at.ensures.back in
    let step = subst (λ r. Appends (IsNext form limits r (drop from.at input) from next) c.loop-at.out.text c.push_step.new.out.text) read
    (subst (λ b. Appends (IsNext form limits c.cut.result.1.now b from next) c.loop-at.out.text c.push_step.new.out.text) bytes c.in_ok-from.ensures.step) in
    let later = c.in_ok-from.ensures.later in
    let past = later.0 in
    let near = later.1 in
    let n = ap length bytes ∙ length-drop from.at input in
    let within = i.within in
    record {
      keeps = keeps_next form limits input c.args.first from next c.args.out.now.text c.loop-at.out.text c.push_step.new.out.text i.keeps over step;
      counts = later.2;
      within = omega (arith, past, near, n, within);
      rest = ap (drop next.at) whole ∙ c.set_begin.ensures.later next.at past ∙ ap (drop next.at) value ∙ same_later from.at next.at items input (omega (arith, past)) i.rest;
      size = ap length whole ∙ size ∙ i.size;
    }

pub returns-clause-recovery : goal.returns-clause-recovery
returns-clause-recovery c =
    let from = c.loop-at.from in
    keeps_last (style_form c.args.look.now.style) c.args.look.now.source.limits c.args.input.now c.args.first from c.args.out.now.text c.loop-at.out.text c.loop-at.invariant.keeps
    (sym c.is_over.ensures ∙ c.loop-at-test.false)
