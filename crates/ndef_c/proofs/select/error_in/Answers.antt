use Rattle.std.proofs.Common.{◌+◌, ◌-◌, None, Some, drop, length, length-drop, get_or, refl, sym, ◌∙◌, ap, subst, arith}
use Rattle.ndef_format.specs.declared.kind.Kind.TheVariants as kinds
use Rattle.ndef_format.specs.declared.table.Table.TheVariants as tables
use Rattle.ndef_types.specs.Contents.{IsOfKind, Lack}
use Rattle.ndef_c.specs.Nested.{MayBeInPieces, LiesAfter}
use Rattle.ndef_c.specs.Walks.{Lies}
use Rattle.ndef_c.proofs.Handovers.{error_some, error_reported, first_has, select_nest}
use Rattle.ndef_c.proofs.Places.{lies_after, lies_within}
use Rattle.ndef_c.proofs.select.error_in.Goals as goal

pub returns-in_default : goal.returns-in_default
returns-in_default c = λ profile items h.
    (None, c.in_default.ensures profile items (subst (MayBeInPieces profile items) (sym c.after_version.ensures) h.pieces), (refl, refl, refl, refl))

pub bounds-found-0 : goal.bounds-found-0
bounds-found-0 c =
    let n = select_nest c.requires.nest.0 c.args.payload.now c.requires.nest.1 in
    let f = c.in-Some.ensures c.requires.nest.0 n.items (subst (MayBeInPieces c.requires.nest.0 n.items) (sym c.after_version.ensures) n.are.pieces) in
    let some = error_some f.0.payload (first_has tables.Select c.requires.nest.0 n.items (drop 1 c.args.payload.now) kinds.Error f.0 n.are f.1) in
    let e = ap length f.2.payload in
    omega (arith, some, e)

pub overflow_sub-result : goal.overflow_sub-result
overflow_sub-result c =
    let n = select_nest c.requires.nest.0 c.args.payload.now c.requires.nest.1 in
    let f = c.in-Some.ensures c.requires.nest.0 n.items (subst (MayBeInPieces c.requires.nest.0 n.items) (sym c.after_version.ensures) n.are.pieces) in
    let some = error_some f.0.payload (first_has tables.Select c.requires.nest.0 n.items (drop 1 c.args.payload.now) kinds.Error f.0 n.are f.1) in
    let e = ap length f.2.payload in
    omega (arith, some, e)

pub overflow_add-result : goal.overflow_add-result
overflow_add-result c =
    let n = select_nest c.requires.nest.0 c.args.payload.now c.requires.nest.1 in
    let f = c.in-Some.ensures c.requires.nest.0 n.items (subst (MayBeInPieces c.requires.nest.0 n.items) (sym c.after_version.ensures) n.are.pieces) in
    let some = error_some f.0.payload (first_has tables.Select c.requires.nest.0 n.items (drop 1 c.args.payload.now) kinds.Error f.0 n.are f.1) in
    let within = lies_within _ _ _ _ f.2.lies some in
    let d = ap length c.after_version.ensures ∙ length-drop 1 c.args.payload.now in
    let short = c.requires.short in
    omega (arith, within, d, short)

pub returns : goal.returns
returns c = λ profile items h.
    let f = c.in-Some.ensures profile items (subst (MayBeInPieces profile items) (sym c.after_version.ensures) h.pieces) in
    let error = first_has tables.Select profile items (drop 1 c.args.payload.now) kinds.Error f.0 h f.1 in
    let within = lies_within _ _ _ _ f.2.lies (error_some f.0.payload error) in
    let l = lies_after c.args.payload.now c.after_version.result.now f.0.payload c.in-Some.found.at (length c.in-Some.found.payload.now) c.after_version.ensures within f.2.lies in
    let t = error_reported c.args.payload.now f.0.payload c.in-Some.found.at error (subst (λ n. Lies c.args.payload.now (c.in-Some.found.at + 1) n f.0.payload) (ap length f.2.payload) l) in (
      Some f.0,
      f.1,
      (
        refl,
        t.0,
        t.1,
        c.from.ensures ∙ ap (λ s. get_or s 0 0) f.2.payload ∙ t.2,
        subst (λ n. Lies c.args.payload.now (c.in-Some.found.at + 2) (n - 1) t.0.detail) (sym (ap length f.2.payload)) t.3,
        c.in-Some.found.at,
        subst (λ b. LiesAfter (Lack (IsOfKind tables.Select kinds.Error)) b f.0 c.in-Some.found.at) c.after_version.ensures f.2.place,
        refl,
      ),
    )
