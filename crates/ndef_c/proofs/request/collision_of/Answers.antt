use Rattle.std.proofs.Common.{◌∙◌, ap, length, sym, Some}
use Rattle.std.specs.Int.{w16, from_be_bytes}
use Rattle.ndef_format.specs.declared.kind.Kind.TheVariants as kinds
use Rattle.ndef_format.specs.declared.table.Table.TheVariants as tables
use Rattle.ndef_c.proofs.Handovers.{collision_first, first_has, some_collision}
use Rattle.ndef_c.proofs.request.collision_of.Goals as goal

pub unreachable-requires : goal.unreachable-requires
unreachable-requires c = let r = c.requires in some_collision r.1 r.2.contents.complete (c.in_default.ensures r.0 r.1 r.2.pieces)

pub unreachable-requires-in_default-number_in : goal.unreachable-requires-in_default-number_in
unreachable-requires-in_default-number_in c =
    let r = c.requires in
    let f = c.in-Some.ensures r.0 r.1 r.2.pieces in
    let size = ap length f.2.payload ∙ (first_has tables.Request r.0 r.1 c.args.message.now kinds.Collision f.0 r.2 f.1).1 in
    c.in_default-number_in.ensures.none (ap (λ n. Some n) (sym size))

pub returns : goal.returns
returns c = λ profile items h.
    let f = c.in-Some.ensures profile items h.pieces in
    collision_first items f.0 _ h.contents.complete f.1 (c.in-Some-number_in.ensures.some.1 ∙ ap (from_be_bytes w16) f.2.payload)
