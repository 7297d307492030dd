use Rattle.std.proofs.Common.{◌≡◌, ◌<◌, ◌+◌, ◌⊎◌, ◌++◌, ◌∙◌, [], ◌∷◌, true, false, inl, inr, ap, sym, subst, append_assoc, arith, length, take}
use Rattle.std.specs.Prelude.{is_some, option_map}
use Rattle.ndef_format.specs.Kinds.{kind_of}
use Rattle.ndef_types.specs.Links.{IsHandoverRecord, is_handover}
use Rattle.ndef_tool.specs.Members.{FindsFirst}
use Rattle.ndef_tool.proofs.Carriers.{as_record, first_here, first_kept, no_record, none_yet, some_yet}
use Rattle.ndef_tool.proofs.Lines.{records_on, take_grows}
use Rattle.ndef_tool.proofs.showing.push_records.Goals.{then-is_none+then-is_handover+in_ok-push_first, else-is_none+in_ok-push_record, else-is_none-via-then-is_none+else-is_handover, else-is_none-via-else-is_none}
use Rattle.ndef_tool.proofs.showing.push_records.Goals as goal

pub loop-index-preserved : goal.loop-index-preserved
loop-index-preserved c =
    let items = c.args.message.now in
    let n = c.loop-index.index in
    let i = c.in-Some.item.now in
    let kind = kind_of i.tnf i.kind in
    let l : n < length items = omega (arith, c.len-index-end.ensures.value, c.loop-index-test.true) in
    let at = sym c.in-Some.ensures.value in
    let done = c.loop-index.invariant.lines in
    let before = c.loop-index.invariant.first in
    let grown : take (n + 1) items ≡ take n items ++ i ∷ [] = take_grows items n i l at in
    elim c.if-is_none.branch [
      | then-is_none+then-is_handover+in_ok-push_first w ↦
          let more = w.in_ok-push_first.ensures.line in
          let none : is_some c.loop-index.first ≡ false = rw w.if-is_none.true at c.is_none.ensures in
          let is : is_handover kind ≡ true = ap is_handover (sym w.kind_of.ensures) ∙ sym w.is_handover.ensures ∙ w.if-is_handover.true in
          record {
            lines = (
              done.0 ++ more.0,
              w.lines-is ∙ more.1 ∙ ap (λ t. t ++ more.0) done.1 ∙ append_assoc c.args.lines.now done.0 more.0,
              records_on c.args.profile items n i done.0 more.0 l at done.2 more.2,
            );
            first =
                subst (λ o. FindsFirst c.args.profile (take (n + 1) items) (option_map (λ m. m.items) o)) (sym w.first-is)
                (rw grown (first_here c.args.profile (take n items) w.in_ok-push_first.field-0.items i (none_yet c.args.profile (take n items) (λ m. m.items) c.loop-index.first none before)
                (as_record kind is) w.in_ok-push_first.ensures.members));
          }
      | else-is_none+in_ok-push_record w ↦
          let more = w.in_ok-push_record.ensures in
          let why : (is_some (option_map (λ m. m.items) c.loop-index.first) ≡ true) ⊎ ¬ IsHandoverRecord i =
          elim w.else-is_none.branch [
            | else-is_none-via-then-is_none+else-is_handover v ↦ inr (no_record kind (ap is_handover (sym v.kind_of.ensures) ∙ sym v.is_handover.ensures ∙ v.if-is_handover.false))
            | else-is_none-via-else-is_none v ↦
                let some : is_some c.loop-index.first ≡ true = rw v.if-is_none.false at c.is_none.ensures in
                inl (some_yet (λ m. m.items) c.loop-index.first some)
          ] in
          record {
            lines = (
              done.0 ++ more.0,
              w.lines-is ∙ more.1 ∙ ap (λ t. t ++ more.0) done.1 ∙ append_assoc c.args.lines.now done.0 more.0,
              records_on c.args.profile items n i done.0 more.0 l at done.2 more.2,
            );
            first =
                subst (λ o. FindsFirst c.args.profile (take (n + 1) items) (option_map (λ m. m.items) o)) (sym w.first-is)
                (rw grown (first_kept c.args.profile (take n items) (option_map (λ m. m.items) c.loop-index.first) i before why));
          }
    ]
