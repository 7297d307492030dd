use Rattle.std.proofs.Common.{[], ◌≡◌, refl, sym, ◌∙◌, ap, subst, true, false, Some, None}
use Rattle.std.specs.Prelude.{is_some, unwrap_or}
use Rattle.ndef_format.specs.Nested.{IsPayload, table_in}
use Rattle.ndef_format.specs.Payloads.{IsTypedBy}
use Rattle.ndef_format.specs.declared.table.Table.TheVariants.{SmartPoster}
use Rattle.ndef_lang.specs.Language.{Continues}
use Rattle.ndef_lang.specs.Machine.Leaf.{CompletesLeaf, LeafReached}
use Rattle.ndef_nest.specs.Machine.Nests.{future}
use Rattle.ndef_nest.proofs.typed.TypedLanguage.start.Goals as goal

pub returns-in-Some : goal.returns-in-Some
returns-in-Some c =
    let kind = c.args.kind in
    let e : Some c.in-Some.table ≡ table_in kind = sym c.in-Some.is ∙ c.table.ensures in
    record {
      future = subst (λ t. Continues (IsTypedBy t kind c.args.records c.args.profile) (future c.new.result) []) e c.new.ensures.future;
      reached = (subst (λ t. is_some t ≡ true) e refl, c.new.ensures.reached kind (ap (λ t. unwrap_or t SmartPoster) (sym e)));
    }

pub returns-in-None : goal.returns-in-None
returns-in-None c =
    let kind = c.args.kind in
    let e : None ≡ table_in kind = sym c.in-None.is ∙ c.table.ensures in
    let leaf = c.start.result in
    let of = subst (λ k. Continues (IsPayload k c.args.profile) (CompletesLeaf leaf) []) c.outer.ensures c.start.ensures.future in
    record {
      future = subst (λ t. Continues (IsTypedBy t kind c.args.records c.args.profile) (CompletesLeaf leaf) []) e of;
      reached = (
        subst (λ t. is_some t ≡ false) e refl,
        subst (λ k. LeafReached leaf k c.args.profile []) c.outer.ensures c.start.ensures.reached,
      );
    }
