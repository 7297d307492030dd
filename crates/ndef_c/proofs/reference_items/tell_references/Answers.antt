use Rattle.std.proofs.Common.{◌≡◌, ◌+◌, ◌++◌, ◌∷◌, [], length, length-append, sum_by, refl, sym, ◌∙◌, ap, subst, arith}
use Rattle.std.proofs.lemmas.List.Sums.{sum_by_push}
use Rattle.ndef_value.specs.ListLaws.{all_append}
use Rattle.ndef_format.specs.Handovers.{IsAlternative}
use Rattle.ndef_format.specs.Messages.{run_record}
use Rattle.ndef_types.specs.Links.{alternatives}
use Rattle.ndef_types.specs.Values.{StandsForAc}
use Rattle.ndef_c.specs.HandoverItems.{AreOfCarrier, AreReferenceItems, HasNoRecord, reference_count, references_of}
use Rattle.ndef_c.specs.Nested.{MayBeInPieces}
use Rattle.ndef_c.specs.declared.reference_items.Carrier.{Carrier}
use Rattle.ndef_c.proofs.Ahead.{ahead_in, all_done, reached}
use Rattle.ndef_c.proofs.Filled.{length-set_over}
use Rattle.ndef_c.proofs.Filtered.{filter_more, filter_same}
use Rattle.ndef_c.proofs.Handovers.{is_carrier}
use Rattle.ndef_c.proofs.ReferenceLists.{are_more, count_within, of_carrier, passed}
use Rattle.ndef_c.proofs.Walking.{begins, here}
use Rattle.ndef_c.proofs.reference_items.tell_references.Goals as goal

pub after_version-message-requires : goal.after_version-message-requires
after_version-message-requires c = c.requires.carriers.2.some

pub loop-found-init : goal.loop-found-init
loop-found-init c =
    let s = begins c.into_iter-found-iterator.ensures.into_iter_gives c.from-found-items.ensures.bytes c.from-found-items.ensures.at c.from-found-items.ensures.going in
    record {
      same = s.same;
      counted = omega arith;
      listed = λ profile records h. record {
        done = [];
        ahead = ahead_in profile records _ s (subst (MayBeInPieces profile records) (sym c.after_version-message.ensures) h.records);
        reported = [];
        are = refl;
        none = tt;
        size = refl;
        sum = refl;
        carriers = refl;
        filled = refl;
      };
    }

pub wants-requires : goal.wants-requires
wants-requires c = let h = here c.after_version-message.result.now _ c.in-Some.found _ c.in-Some.ensures.steps c.loop-found.invariant.same in (_, h.there)

pub part_in-requires : goal.part_in-requires
part_in-requires c = let h = here c.after_version-message.result.now _ c.in-Some.found _ c.in-Some.ensures.steps c.loop-found.invariant.same in (_, h.there)

pub overflow_add-carrier : goal.overflow_add-carrier
overflow_add-carrier c =
    let q = c.requires.carriers in
    let i = c.loop-found.invariant in
    let h = here c.after_version-message.result.now _ c.in-Some.found _ c.in-Some.ensures.steps i.same in
    let t = i.listed q.0 q.1 q.2 in
    let short = (passed q.0 c.args.payload.now q.1 t.done c.after_version-message.ensures q.2 h (reached t.ahead h) (sym (c.wants.ensures _ h.there) ∙ c.if-wants.true)).short in
    let size = c.requires.short in
    omega (arith, short, size)

pub tell_carrier-count-requires : goal.tell_carrier-count-requires
tell_carrier-count-requires c =
    let q = c.requires.carriers in
    let i = c.loop-found.invariant in
    let h = here c.after_version-message.result.now _ c.in-Some.found _ c.in-Some.ensures.steps i.same in
    let t = i.listed q.0 q.1 q.2 in
    let r = reached t.ahead h in
    let wanted = sym (c.wants.ensures _ h.there) ∙ c.if-wants.true in
    let p = passed q.0 c.args.payload.now q.1 t.done c.after_version-message.ensures q.2 h r wanted in
    let part = c.part_in.ensures _ h.there ∙ r.one in
    let short = p.short in
    let most = c.requires.short in
    let e = ap length part in
    let buffer = c.requires.buffer q.0 q.1 q.2 in
    let own = ap references_of part in
    let within = count_within q.1 t.done (run_record h.there.run) r.within wanted in
    let sum = t.sum in
    let size = t.size in
    let n = ap length t.filled ∙ length-set_over t.reported c.args.items.now (omega (arith, buffer, within, sum, size)) in
    record { alternative = subst IsAlternative (sym part) p.alternative; short = omega (arith, short, most, e); buffer = omega (arith, buffer, own, within, sum, n) }

pub overflow_add-index : goal.overflow_add-index
overflow_add-index c =
    let i = c.loop-found.invariant in
    let h = here c.after_version-message.result.now _ c.in-Some.found _ c.in-Some.ensures.steps i.same in
    let counted = i.counted in
    omega (arith, counted, h.there.onward, h.there.within)

pub loop-found-preserved-then-wants : goal.loop-found-preserved-then-wants
loop-found-preserved-then-wants c =
    let i = c.loop-found.invariant in
    let h = here c.after_version-message.result.now _ c.in-Some.found _ c.in-Some.ensures.steps i.same in
    let item = run_record h.there.run in
    let counted = i.counted in
    record {
      same = h.same;
      counted = omega (arith, counted, h.there.onward, h.next);
      listed = λ profile records k.
          let t = i.listed profile records k in
          let r = reached t.ahead h in
          let wanted = sym (c.wants.ensures _ h.there) ∙ c.if-wants.true in
          let p = passed profile c.args.payload.now records t.done c.after_version-message.ensures k h r wanted in
          let e = c.part_in.ensures _ h.there ∙ r.one in
          let carrier : Carrier = record { index = c.loop-found.index; at = c.in-Some.found.payload_at + 1; payload = c.part_in.result } in
          let v = c.alternatives_are_exact.ensures.exact.each item.payload p.alternative in
          let own = c.tell_carrier-count.ensures.tells v.0 t.reported c.args.items.now (subst (λ s. StandsForAc s v.0) (sym e) v.1.1) t.filled t.size in
          let all = filter_more is_carrier t.done item wanted in
          let refs = ap references_of e in
          let next = c.tell_carrier-count.ensures.next in
          let sum = t.sum in
          let size = t.size in
          let count = own.2 in
          let sums = ap (sum_by reference_count) all ∙ sum_by_push reference_count (alternatives t.done) item in
          let more = length-append t.reported own.0 in
          let carriers = t.carriers in
          let one = ap length all ∙ length-append (alternatives t.done) (item ∷ []) in
          let first : length (alternatives t.done) ≡ 0 + length (alternatives t.done) = omega arith in
          let are : AreOfCarrier c.args.payload.now (0 + length (alternatives t.done)) item own.0 = subst (λ n. AreOfCarrier c.args.payload.now n item own.0) first (of_carrier c.args.payload.now (length (alternatives t.done)) item v.0 carrier t.carriers e p.there v.1.1 own.0 own.1 (own.2 ∙ refs)) in
          record {
            done = t.done ++ item ∷ [];
            ahead = r.next;
            reported = t.reported ++ own.0;
            are = subst (λ acs. AreReferenceItems c.args.payload.now 0 acs (t.reported ++ own.0)) (sym all) (are_more c.args.payload.now 0 (alternatives t.done) item t.reported own.0 t.are are);
            none = all_append HasNoRecord t.reported own.0 t.none own.3;
            size = omega (arith, next, size, count, more);
            sum = omega (arith, next, sum, refs, sums);
            carriers = omega (arith, carriers, one);
            filled = own.4;
          };
    }

pub loop-found-preserved : goal.loop-found-preserved
loop-found-preserved c =
    let i = c.loop-found.invariant in
    let h = here c.after_version-message.result.now _ c.in-Some.found _ c.in-Some.ensures.steps i.same in
    let item = run_record h.there.run in
    let counted = i.counted in
    record {
      same = h.same;
      counted = omega (arith, counted, h.there.onward, h.next);
      listed = λ profile records k.
          let t = i.listed profile records k in
          let all = filter_same is_carrier t.done item (sym (c.wants.ensures _ h.there) ∙ c.if-wants.false) in
          record {
            done = t.done ++ item ∷ [];
            ahead = (reached t.ahead h).next;
            reported = t.reported;
            are = subst (λ acs. AreReferenceItems c.args.payload.now 0 acs t.reported) (sym all) t.are;
            none = t.none;
            size = t.size;
            sum = t.sum ∙ ap (sum_by reference_count) (sym all);
            carriers = t.carriers ∙ ap length (sym all);
            filled = t.filled;
          };
    }

pub returns : goal.returns
returns c = λ profile records k.
    let t = c.loop-found.invariant.listed profile records k in
    let all = ap alternatives (all_done t.ahead c.in-None.ensures.steps) in (
      t.reported,
      subst (λ acs. AreReferenceItems c.args.payload.now 0 acs t.reported) (sym all) t.are,
      sym t.size ∙ t.sum ∙ ap (sum_by reference_count) (sym all),
      t.none,
      t.filled,
    )
