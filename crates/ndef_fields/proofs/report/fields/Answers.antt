use Rattle.std.proofs.Common.{sym, ◌∙◌, ap, arith, take, map, length-take-le}
use Rattle.ndef_format.specs.Messages.{all_pieces, run_record}
use Rattle.ndef_fields.specs.Parts.{placed}
use Rattle.ndef_fields.specs.Walks.{outer_in}
use Rattle.ndef_fields.proofs.Members.{deep_holds, deep_some}
use Rattle.ndef_fields.proofs.Walks.{outer_parts}
use Rattle.ndef_fields.proofs.report.fields.Goals as goal

pub returns-in-Ok-clause-reported : goal.returns-in-Ok-clause-reported
returns-in-Ok-clause-reported c =
    let v = c.in-Ok.ensures.message in
    let d = v.1.0 in
    let bytes = take c.in-Ok.view.taken c.args.bytes.now in
    let items = map run_record c.in-Ok.view.runs in (
      record {
        count = c.in-Ok.view.taken;
        within = v.0;
        items = items;
        accepted = d;
        parts = outer_in bytes;
        spelled = outer_parts (all_pieces d.runs) bytes d.spelling.spelled (deep_holds c.args.limits items bytes d);
        placed = c.new.ensures ∙ ap (λ n. placed 0 (outer_in (take n c.args.bytes.now))) c.taken-taken.ensures;
      },
      sym c.taken-taken.ensures,
      v.1.1 ∙ sym c.items.ensures.value,
    )

pub returns-in-Ok-clause-some : goal.returns-in-Ok-clause-some
returns-in-Ok-clause-some c =
    let v = c.in-Ok.ensures.message in
    let n = c.taken-taken.ensures in
    let within = v.0 in
    let some = deep_some c.args.limits _ _ v.1.0 in
    let l = length-take-le c.in-Ok.view.taken c.args.bytes.now v.0 in
    (omega (arith, n, some, l), omega (arith, n, within))
