use Rattle.std.proofs.Common.{◌∷◌, ◌++◌, [], ap, append_assoc, arith, length, length-append, map, sym, ◌∙◌}
use Rattle.std.proofs.lemmas.List.{length-map}
use Rattle.ndef_c.specs.Fields.{numbers_of}
use Rattle.ndef_c.proofs.Filled.{filled_on, length-set_over}
use Rattle.ndef_c.proofs.fields.write_fields.Goals as goal

pub bounds-array-index : goal.bounds-array-index
bounds-array-index c =
    let i = c.loop-field.invariant in
    let left = c.loop-field.field-iterator in
    let steps = ap length c.in-Some.ensures.steps in
    let all = ap length i.all in
    let one = length-append i.done (map numbers_of left) in
    let some = length-map left numbers_of in
    let many = length-map c.args.fields numbers_of in
    let buffer = c.requires in
    let index = i.index in
    let size = ap length i.filled ∙ length-set_over i.done c.args.array.now (omega (arith, steps, all, one, some, many, buffer)) in
    omega (arith, steps, all, one, some, many, buffer, index, size)

pub loop-field-preserved : goal.loop-field-preserved
loop-field-preserved c =
    let i = c.loop-field.invariant in
    let left = c.loop-field.field-iterator in
    let reported = c.numbers_of.result in
    let next = c.next.new.self in
    let steps = c.in-Some.ensures.steps in
    let fewer = ap length steps in
    let all = ap length i.all in
    let one = length-append i.done (map numbers_of left) in
    let some = length-map left numbers_of in
    let many = length-map c.args.fields numbers_of in
    let buffer = c.requires in
    let index = i.index in
    let more = length-append i.done (reported ∷ []) in
    record {
      done = i.done ++ reported ∷ [];
      all = append_assoc i.done (reported ∷ []) (map numbers_of next)
          ∙ ap (λ x. i.done ++ (x ∷ map numbers_of next)) c.numbers_of.ensures ∙ ap (λ fs. i.done ++ map numbers_of fs) (sym steps) ∙ i.all;
      filled = filled_on i.done reported c.args.array.now c.loop-field.array c.loop-field.index i.filled i.index (omega (arith, fewer, all, one, some, many, buffer));
      index = omega (arith, index, more);
    }
