use Rattle.std.proofs.Common.{◌++◌, ◌∷◌, [], length, length-drop, sum_by, refl, sym, ◌∙◌, ap, subst, arith}
use Rattle.std.proofs.lemmas.List.Sums.{sum_by_push}
use Rattle.ndef_format.specs.Handovers.{IsAlternative}
use Rattle.ndef_format.specs.Messages.{run_record}
use Rattle.ndef_types.specs.Links.{alternatives}
use Rattle.ndef_c.specs.HandoverItems.{reference_count, references_of}
use Rattle.ndef_c.specs.Nested.{MayBeInPieces}
use Rattle.ndef_c.proofs.Ahead.{ahead_in, all_done, reached}
use Rattle.ndef_c.proofs.Filtered.{filter_more, filter_same}
use Rattle.ndef_c.proofs.Handovers.{is_carrier}
use Rattle.ndef_c.proofs.ReferenceLists.{alternative_here}
use Rattle.ndef_c.proofs.Walking.{begins, here}
use Rattle.ndef_c.proofs.reference_items.count_references.Goals as goal

pub after_version-message-requires : goal.after_version-message-requires
after_version-message-requires c = c.requires.carriers.2.some

pub loop-found-init : goal.loop-found-init
loop-found-init c =
    let s = begins c.into_iter-found-iterator.ensures.into_iter_gives c.from-found-items.ensures.bytes c.from-found-items.ensures.at c.from-found-items.ensures.going in
    record {
      same = s.same;
      counted = omega arith;
      ahead = λ profile records h. ([], ahead_in profile records _ s (subst (MayBeInPieces profile records) (sym c.after_version-message.ensures) h.records), refl);
    }

pub wants-requires : goal.wants-requires
wants-requires c = let h = here c.after_version-message.result.now _ c.in-Some.found _ c.in-Some.ensures.steps c.loop-found.invariant.same in (_, h.there)

pub part_in-requires : goal.part_in-requires
part_in-requires c = let h = here c.after_version-message.result.now _ c.in-Some.found _ c.in-Some.ensures.steps c.loop-found.invariant.same in (_, h.there)

pub references_in-count-requires : goal.references_in-count-requires
references_in-count-requires c =
    let q = c.requires.carriers in
    let i = c.loop-found.invariant in
    let h = here c.after_version-message.result.now _ c.in-Some.found _ c.in-Some.ensures.steps i.same in
    let a = i.ahead q.0 q.1 q.2 in
    let r = reached a.1 h in
    let k = sym (c.wants.ensures _ h.there) ∙ c.if-wants.true in
    subst IsAlternative (sym (c.part_in.ensures _ h.there ∙ r.one)) (alternative_here q.0 c.args.payload.now q.1 a.0 (run_record h.there.run) q.2 r.within k)

pub overflow_add-count : goal.overflow_add-count
overflow_add-count c =
    let i = c.loop-found.invariant in
    let h = here c.after_version-message.result.now _ c.in-Some.found _ c.in-Some.ensures.steps i.same in
    let d = ap length c.after_version-message.ensures ∙ length-drop 1 c.args.payload.now in
    let counted = i.counted in
    let few = c.references_in-count.ensures.few in
    let short = c.requires.short in
    omega (arith, counted, h.there.onward, h.there.within, d, few, short)

pub loop-found-preserved-then-wants : goal.loop-found-preserved-then-wants
loop-found-preserved-then-wants c =
    let i = c.loop-found.invariant in
    let h = here c.after_version-message.result.now _ c.in-Some.found _ c.in-Some.ensures.steps i.same in
    let item = run_record h.there.run in
    let few = c.references_in-count.ensures.few in
    let counted = i.counted in
    record {
      same = h.same;
      counted = omega (arith, counted, h.there.onward, h.next, few);
      ahead = λ profile records k.
          let a = i.ahead profile records k in
          let r = reached a.1 h in
          let more = ap (sum_by reference_count) (filter_more is_carrier a.0 item (sym (c.wants.ensures _ h.there) ∙ c.if-wants.true)) ∙ sum_by_push reference_count (alternatives a.0) item in
          let own = c.references_in-count.ensures.count ∙ ap references_of (c.part_in.ensures _ h.there ∙ r.one) in
          let n = a.2 in
          (a.0 ++ item ∷ [], r.next, omega (arith, n, more, own));
    }

pub loop-found-preserved : goal.loop-found-preserved
loop-found-preserved c =
    let i = c.loop-found.invariant in
    let h = here c.after_version-message.result.now _ c.in-Some.found _ c.in-Some.ensures.steps i.same in
    let item = run_record h.there.run in
    let counted = i.counted in
    record {
      same = h.same;
      counted = omega (arith, counted, h.there.onward, h.next);
      ahead = λ profile records k.
          let a = i.ahead profile records k in
          let same = ap (sum_by reference_count) (filter_same is_carrier a.0 item (sym (c.wants.ensures _ h.there) ∙ c.if-wants.false)) in
          (a.0 ++ item ∷ [], (reached a.1 h).next, a.2 ∙ sym same);
    }

pub returns : goal.returns
returns c = λ profile records k.
    let a = c.loop-found.invariant.ahead profile records k in
    a.2 ∙ ap (λ xs. sum_by reference_count (alternatives xs)) (sym (all_done a.1 c.in-None.ensures.steps))
