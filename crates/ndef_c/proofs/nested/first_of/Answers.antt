use Rattle.std.proofs.Common.{◌≡◌, ◌++◌, ◌∷◌, [], refl, sym, ◌∙◌, subst, true≢false}
use Rattle.ndef_format.specs.Messages.{run_record}
use Rattle.ndef_format.specs.Nested.{kind_in}
use Rattle.ndef_types.specs.Contents.{IsOfKind, Lack}
use Rattle.ndef_c.proofs.Ahead.{ahead_in, all_done, first_is, found_of, lack_on, reached}
use Rattle.ndef_c.proofs.Walking.{begins, here}
use Rattle.ndef_c.proofs.nested.first_of.Goals as goal

pub loop-found-init : goal.loop-found-init
loop-found-init c =
    let s = begins c.into_iter-found-iterator.ensures.into_iter_gives c.from-found-items.ensures.bytes c.from-found-items.ensures.at c.from-found-items.ensures.going in
    record { same = s.same; ahead = λ profile items m. ([], ahead_in profile items c.args.bytes.now s m, tt) }

pub tnf_in-requires : goal.tnf_in-requires
tnf_in-requires c = let h = here c.args.bytes.now _ c.in-Some.found _ c.in-Some.ensures.steps c.loop-found.invariant.same in (_, _, h.there)

pub type_in-requires : goal.type_in-requires
type_in-requires c = let h = here c.args.bytes.now _ c.in-Some.found _ c.in-Some.ensures.steps c.loop-found.invariant.same in (_, h.there)

pub part_in-requires : goal.part_in-requires
part_in-requires c = let h = here c.args.bytes.now _ c.in-Some.found _ c.in-Some.ensures.steps c.loop-found.invariant.same in (_, h.there)

pub returns-then-is_kind : goal.returns-then-is_kind
returns-then-is_kind c = λ profile items m.
    let bytes = c.args.bytes.now in
    let i = c.loop-found.invariant in
    let h = here bytes _ c.in-Some.found _ c.in-Some.ensures.steps i.same in
    let P = IsOfKind c.args.table c.args.kind in
    let a = i.ahead profile items m in
    let r = reached a.1 h in
    let item = run_record h.there.run in
    let k : kind_in c.args.table item.tnf item.kind ≡ c.kind.result = (λ j. kind_in c.args.table (sym (c.tnf_in.ensures _ _ h.there) j) (sym (c.type_in.ensures _ h.there) j)) ∙ sym c.kind.ensures in (
      item,
      first_is P items a.0 item r.within a.2 (k ∙ c.is_kind.ensures.0 c.if-is_kind.true),
      found_of (Lack P) bytes _ c.in-Some.found h.there _ refl (c.part_in.ensures _ h.there) r.one a.0 a.2 r.stands,
    )

pub loop-found-preserved : goal.loop-found-preserved
loop-found-preserved c =
    let i = c.loop-found.invariant in
    let h = here c.args.bytes.now _ c.in-Some.found _ c.in-Some.ensures.steps i.same in
    record {
      same = h.same;
      ahead = λ profile items m.
          let a = i.ahead profile items m in
          let r = reached a.1 h in
          let item = run_record h.there.run in
          let k : kind_in c.args.table item.tnf item.kind ≡ c.kind.result = (λ j. kind_in c.args.table (sym (c.tnf_in.ensures _ _ h.there) j) (sym (c.type_in.ensures _ h.there) j)) ∙ sym c.kind.ensures in
          (a.0 ++ item ∷ [], r.next, lack_on (IsOfKind c.args.table c.args.kind) a.0 item a.2 (λ e. true≢false (sym (c.is_kind.ensures.1 (sym k ∙ e)) ∙ c.if-is_kind.false)));
    }

pub returns : goal.returns
returns c = λ profile items m.
    let a = c.loop-found.invariant.ahead profile items m in
    subst (Lack (IsOfKind c.args.table c.args.kind)) (sym (all_done a.1 c.in-None.ensures.steps)) a.2
