use Rattle.std.proofs.Common.{◌≡◌, ◌++◌, ◌∷◌, [], length, length-append, append_assoc, refl, sym, ◌∙◌, ap, subst, arith}
use Rattle.std.specs.List.{AllByRecursion}
use Rattle.ndef_value.specs.ListLaws.{all_back}
use Rattle.ndef_format.specs.Messages.{run_record}
use Rattle.ndef_c.specs.Items.{AreItems, IsItemAt, MayBeItem}
use Rattle.ndef_c.proofs.Filled.{filled_on, length-set_over}
use Rattle.ndef_c.proofs.Listed.{all_reported, items_count, items_on, same_end, step, there}
use Rattle.ndef_c.proofs.items.tell_items.Goals as goal

pub loop-index-init : goal.loop-index-init
loop-index-init c = λ profile runs end m n. record { done = []; left = runs; all = refl; walked = m.walked; reported = []; are = refl; filled = refl; index_is = refl }

pub unreachable-requires : goal.unreachable-requires
unreachable-requires c =
    let q = c.requires.listed in
    let i = c.loop-index.invariant q.0 q.1 q.2 q.3 q.4 in
    let test = c.loop-index-test.true in
    let index = i.index_is in
    let size = q.4 in
    let count = items_count _ _ _ _ _ i.are in
    let all = ap length i.all ∙ length-append i.done i.left in
    c.in_default.ensures.none (there c.args.message.now.bytes.now c.loop-index.at i.left q.2 i.walked (omega (arith, test, index, size, count, all)))

pub item_of-requires-clause-found : goal.item_of-requires-clause-found
item_of-requires-clause-found c =
    let q = c.requires.listed in
    let m = c.args.message.now in
    let i = c.loop-index.invariant q.0 q.1 q.2 q.3 q.4 in
    let test = c.loop-index-test.true in
    let index = i.index_is in
    let size = q.4 in
    let count = items_count _ _ _ _ _ i.are in
    let all = ap length i.all ∙ length-append i.done i.left in
    let x = c.in-Some.ensures.some in
    let s = step m.bytes.now c.loop-index.at i.left q.2 c.in-Some.found i.walked q.3.inside (omega (arith, test, index, size, count, all)) x in
    let runs : q.1 ≡ i.done ++ x.run ∷ s.more = i.all ∙ ap (λ y. i.done ++ y) s.are in
    (q.0, c.loop-index.at, x, (all_back (λ r. MayBeItem m.looks m.within q.0 (run_record r)) i.done (x.run ∷ s.more) (subst (λ rs. AllByRecursion (λ r. MayBeItem m.looks m.within q.0 (run_record r)) rs) runs q.3.each)).0)

pub bounds-items-index : goal.bounds-items-index
bounds-items-index c =
    let q = c.requires.listed in
    let i = c.loop-index.invariant q.0 q.1 q.2 q.3 q.4 in
    let test = c.loop-index-test.true in
    let index = i.index_is in
    let buffer = c.requires.buffer in
    let n = ap length i.filled ∙ length-set_over i.reported c.args.items.now (omega (arith, test, index, buffer)) in
    omega (arith, test, index, buffer, n)

pub loop-index-preserved : goal.loop-index-preserved
loop-index-preserved c = λ profile runs end l size.
    let m = c.args.message.now in
    let bytes = m.bytes.now in
    let Is = IsItemAt m.looks m.within profile bytes in
    let i = c.loop-index.invariant profile runs end l size in
    let test = c.loop-index-test.true in
    let index = i.index_is in
    let buffer = c.requires.buffer in
    let count = items_count _ _ _ _ _ i.are in
    let all = ap length i.all ∙ length-append i.done i.left in
    let x = c.in-Some.ensures.some in
    let s = step bytes c.loop-index.at i.left end c.in-Some.found i.walked l.inside (omega (arith, test, index, size, count, all)) x in
    let are : runs ≡ i.done ++ x.run ∷ s.more = i.all ∙ ap (λ y. i.done ++ y) s.are in
    let member = (all_back (λ r. MayBeItem m.looks m.within profile (run_record r)) i.done (x.run ∷ s.more) (subst (λ rs. AllByRecursion (λ r. MayBeItem m.looks m.within profile (run_record r)) rs) are l.each)).0 in
    let item = c.item_of.result in
    let h = c.item_of.ensures profile c.loop-index.at x member in
    let next : item.end ≡ c.in-Some.found.end = h.repeats.end ∙ same_end bytes c.loop-index.at h.place c.in-Some.found h.there x in
    let more = length-append i.reported (item ∷ []) in
    record {
      done = i.done ++ x.run ∷ [];
      left = s.more;
      all = are ∙ sym (append_assoc i.done (x.run ∷ []) s.more);
      walked = s.walked;
      reported = i.reported ++ item ∷ [];
      are = subst (AreItems Is c.args.start (i.done ++ x.run ∷ []) (i.reported ++ item ∷ [])) next (items_on Is c.args.start c.loop-index.at i.done i.reported x.run item i.are h);
      filled = filled_on i.reported item c.args.items.now c.loop-index.items c.loop-index.index i.filled index (omega (arith, test, index, buffer));
      index_is = omega (arith, index, more);
    }

pub returns : goal.returns
returns c = λ profile runs end l size.
    let m = c.args.message.now in
    let i = c.loop-index.invariant profile runs end l size in
    let test = c.loop-index-test.false in
    let index = i.index_is in
    let count = items_count _ _ _ _ _ i.are in
    let all = ap length i.all ∙ length-append i.done i.left in
    (i.reported, all_reported (IsItemAt m.looks m.within profile m.bytes.now) m.bytes.now c.args.start c.loop-index.at runs i.done i.left i.reported end i.are i.all i.walked (omega (arith, test, index, size, count, all)), omega (arith, test, index, size, count, all), i.filled)
