use Rattle.std.proofs.Common.{arith, refl, subst, ◌∙◌}
use Rattle.ndef_c.specs.Fields.{GivesFieldAt}
use Rattle.ndef_c.proofs.FieldChecks.{are_checked, reported_well}
use Rattle.ndef_c.proofs.fields.ndef_field_at.Goals as goal

pub returns : goal.returns
returns c =
    let f = c.checked_front-checked in
    let b = c.answer_after in
    let well = reported_well c.in-Some.limits c.args.bytes.now f.result.1 f.new.refusal c.give_field.result b.result f.ensures.checks b.ensures.ended b.ensures.refused c.give_field.ensures.known in
    record {
      bad = (λ e. absurd (well e), λ n. absurd (n (c.in-Some.ensures.some.0 refl)));
      kept = λ e. absurd (well e);
      field = λ _.
          let g = c.give_field.ensures in
          let reported = g.within.0 in
          let size = f.ensures.size in
          let are = are_checked c.in-Some.limits c.args.bytes.now f.result.1 f.new.refusal c.heads_are_unambiguous.ensures.apart f.result.0.now reported f.ensures.checks f.ensures.front g.within.1 in
          subst (λ limits. GivesFieldAt limits c.args.bytes.now c.args.place c.args.out.now c.give_field.new.out c.give_field.result f.new.refusal) c.in-Some.ensures.limits
          (
          record {
            checked = f.result.1;
            reported = reported;
            are = are;
            within = λ l. g.within.2 (omega (arith, l, size));
            ended = λ l o. let b = g.following (omega (arith, l, size)) in (b.0 ∙ c.answer_after.ensures.ended o, b.1);
            refused = λ l r.
                let b = g.following (omega (arith, l, size)) in
                (b.0 ∙ c.answer_after.ensures.refused (λ o. absurd (omega (arith, o, r))) ∙ r, b.1);
          }
          );
    }
