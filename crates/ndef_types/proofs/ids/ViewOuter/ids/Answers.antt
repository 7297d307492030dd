use Rattle.std.proofs.Common.{sym, ap, length, map, drop, suc, arith, ◌≡◌, ◌+◌, ◌∙◌}
use Rattle.std.proofs.lemmas.List.{length-map}
use Rattle.ndef_format.specs.Messages.{run_record}
use Rattle.ndef_types.proofs.FirstIds.{all_added, none_found}
use Rattle.ndef_types.proofs.LinkLemmas.{at_front}
use Rattle.ndef_types.proofs.ids.ViewOuter.ids.Goals as goal

pub loop-item-init : goal.loop-item-init
loop-item-init c =
    let e = c.into_iter-item-iterator.ensures.into_iter_gives ∙ c.items-item-items.ensures.value in
    record { counted = omega (arith, ap length e); left = ap (map run_record) (sym e); found = none_found (map run_record c.args.self.now.runs) c.new-ids.result c.new-ids.ensures.empty }

pub loop-item-preserved : goal.loop-item-preserved
loop-item-preserved c =
    let l = c.loop-item in
    let items = map run_record c.args.self.now.runs in
    let i = run_record c.in-Some.item in
    let front = at_front items l.index i (map run_record c.next.new.self) (l.invariant.left ∙ ap (map run_record) c.in-Some.ensures.steps) in
    record {
      counted = omega (arith, l.invariant.counted, ap length c.in-Some.ensures.steps);
      left = let e : l.index + 1 ≡ suc l.index = omega arith in ap (λ k. drop k items) e ∙ front.1;
      found = c.in_ok-add.ensures items i front.0 (sym c.id.ensures) l.invariant.found;
    }

pub returns : goal.returns
returns c =
    let l = c.loop-item in
    let runs = c.args.self.now.runs in
    all_added (map run_record runs) l.index l.ids (omega (arith, length-map runs run_record, l.invariant.counted, ap length c.in-None.ensures.steps.0)) l.invariant.found
