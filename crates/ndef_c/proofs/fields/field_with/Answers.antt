use Rattle.std.proofs.Common.{◌≡◌, ◌+◌, ◌∷◌, ◌++◌, [], ap, append_assoc, arith, rules, subst, sym, ◌∙◌}
use Rattle.ndef_fields.specs.FieldLaws.{AreGapless}
use Rattle.ndef_c.proofs.fields.field_with.Goals as goal

pub loop-field-init : goal.loop-field-init
loop-field-init c =
    let same : c.args.fields ≡ c.into_iter-field-iterator.result = search rules in
    record {
      done = [];
      all = same;
      at = 0;
      reached = omega arith;
      gapless = λ end h. subst (λ fs. AreGapless 0 fs end) same h;
    }

pub loop-field-preserved : goal.loop-field-preserved
loop-field-preserved c =
    let i = c.loop-field.invariant in
    let f = c.in-Some.field in
    let steps = c.in-Some.ensures.steps in
    let first = subst (λ fs. AreGapless i.at fs c.requires.0) steps (i.gapless c.requires.0 c.requires.1) in
    let begins = first.0 in
    let reached = i.reached in
    let over = c.if-place-field.false in
    record {
      done = i.done ++ f ∷ [];
      all = i.all ∙ ap (λ fs. i.done ++ fs) steps ∙ sym (append_assoc i.done (f ∷ []) c.next.new.self);
      at = i.at + f.length;
      reached = omega (arith, begins, reached, over);
      gapless = λ end h. let g = subst (λ fs. AreGapless i.at fs end) steps (i.gapless end h) in g.2;
    }
