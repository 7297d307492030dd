use Rattle.std.proofs.Common.{◌≡◌, drop, length, refl, sym, ◌∙◌, ap, subst, arith, true}
use Rattle.ndef_c.specs.Items.{AreItems, IsItemAt, message_at}
use Rattle.ndef_c.specs.Kinds.{kind_number}
use Rattle.ndef_c.specs.Nested.{MayBeInPieces}
use Rattle.ndef_c.specs.declared.items.Listing.{Listing}
use Rattle.ndef_c.proofs.Filled.{is_too_small as too_small, is_enough as enough}
use Rattle.ndef_c.proofs.Within.{counted, listed, number_with, within_of}
use Rattle.ndef_c.proofs.items.give_nested.Goals as goal

pub overflow_cast-out : goal.overflow_cast-out
overflow_cast-out c =
    let q = c.requires.nest in
    let bytes = c.args.payload.now in
    let w = within_of c.args.table q.0 bytes q.1 in
    let n = counted c.args.table q.0 bytes c.count_expected-count.result w (c.count_expected-count.ensures q.0 w.items (subst (MayBeInPieces q.0 w.items) (sym (c.split_at.ensures.back ∙ ap (λ k. drop k bytes) c.message_at-start.ensures)) w.pieces)) in
    let few = w.few in
    let count = w.count in
    omega (arith, n, few, count)

pub returns-then-items-count-clause-gives : goal.returns-then-items-count-clause-gives
returns-then-items-count-clause-gives c = λ profile h.
    let bytes = c.args.payload.now in
    let w = within_of c.args.table profile bytes h in
    let n = counted c.args.table profile bytes c.count_expected-count.result w (c.count_expected-count.ensures profile w.items (subst (MayBeInPieces profile w.items) (sym (c.split_at.ensures.back ∙ ap (λ k. drop k bytes) c.message_at-start.ensures)) w.pieces)) in
    record { in_set = h; short = c.requires.short; place = refl; reason = refl; runs = w.runs; message = w.message; gives = too_small _ _ _ _ n c.if-items-count.true }

pub tell_items-requires-clause-listed : goal.tell_items-requires-clause-listed
tell_items-requires-clause-listed c =
    let q = c.requires.nest in
    let bytes = c.args.payload.now in
    let w = within_of c.args.table q.0 bytes q.1 in
    let n = counted c.args.table q.0 bytes c.count_expected-count.result w (c.count_expected-count.ensures q.0 w.items (subst (MayBeInPieces q.0 w.items) (sym (c.split_at.ensures.back ∙ ap (λ k. drop k bytes) c.message_at-start.ensures)) w.pieces)) in
    let m : Listing = record { bytes = c.args.payload; within = c.number_of.result; looks = true } in
    let within : c.number_of.result ≡ number_with c.args.table = c.number_of.ensures.number ∙ ap kind_number c.kind_with.ensures.kind in
    (q.0, w.runs, length bytes, listed c.args.table q.0 m c.message_at-start.result w refl within c.message_at-start.ensures, sym n)

pub returns-clause-gives : goal.returns-clause-gives
returns-clause-gives c = λ profile h.
    let table = c.args.table in
    let bytes = c.args.payload.now in
    let w = within_of table profile bytes h in
    let n = counted table profile bytes c.count_expected-count.result w (c.count_expected-count.ensures profile w.items (subst (MayBeInPieces profile w.items) (sym (c.split_at.ensures.back ∙ ap (λ k. drop k bytes) c.message_at-start.ensures)) w.pieces)) in
    let m : Listing = record { bytes = c.args.payload; within = c.number_of.result; looks = true } in
    let within : c.number_of.result ≡ number_with table = c.number_of.ensures.number ∙ ap kind_number c.kind_with.ensures.kind in
    let start = c.message_at-start.ensures in
    let e = c.tell_items.ensures profile w.runs (length bytes) (listed table profile m c.message_at-start.result w refl within start) (sym n) in
    let there = subst (λ k. AreItems (IsItemAt true c.number_of.result profile bytes) k w.runs e.0 (length bytes)) start e.1 in
    let are = subst (λ k. AreItems (IsItemAt true k profile bytes) (message_at table) w.runs e.0 (length bytes)) within there in
    let l = c.if-items-count.false in
    record { in_set = h; short = c.requires.short; place = refl; reason = refl; runs = w.runs; message = w.message; gives = enough _ _ _ _ _ n (omega (arith, l)) e.0 are e.2 e.3 }
