use Rattle.std.proofs.Common.{refl, subst}
use Rattle.ndef_c.specs.Fields.{GivesFields}
use Rattle.ndef_c.proofs.FieldChecks.{are_checked, given_well}
use Rattle.ndef_c.proofs.fields.ndef_fields.Goals as goal

pub returns : goal.returns
returns c =
    let f = c.checked_front-checked in
    let well = given_well c.in-Some.limits c.args.bytes.now f.result.1 f.new.refusal c.give_fields.result f.ensures.checks c.give_fields.ensures.known in
    record {
      bad = (λ e. absurd (well e), λ n. absurd (n (c.in-Some.ensures.some.0 refl)));
      kept = λ e. absurd (well e);
      fields = λ _.
          let g = c.give_fields.ensures.fields in
          let are = are_checked c.in-Some.limits c.args.bytes.now f.result.1 f.new.refusal c.heads_are_unambiguous.ensures.apart f.result.0.now g.0 f.ensures.checks f.ensures.front g.1 in
          subst
          (λ limits. GivesFields limits c.args.bytes.now c.args.fields.now c.give_fields.new.array c.give_fields.new.count c.give_fields.result f.new.refusal)
          c.in-Some.ensures.limits
          (record { checked = f.result.1; reported = g.0; are = are; gives = g.2 });
    }
