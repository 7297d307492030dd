use Rattle.std.proofs.Common.{arith}
use Rattle.ndef_c.proofs.Alternatives.{ac_at, names_count}
use Rattle.ndef_c.proofs.Filled.{is_too_small, is_enough}
use Rattle.ndef_c.proofs.references.give_references.Goals as goal

pub returns-then-parts-needed : goal.returns-then-parts-needed
returns-then-parts-needed c =
    let p = ac_at c.args.payload.now c.from.result c.requires.alternative c.from.ensures in
    let v = c.alternatives_are_exact.ensures.exact.each c.args.payload.now c.requires.alternative in
    let n = names_count _ _ _ _ (p.stand v.0 v.1.1) in
    let k = c.from-needed.ensures in
    record {
      in_set = c.requires.alternative;
      short = c.requires.short;
      alternative = v.0;
      stands = v.1.1;
      gives = is_too_small _ _ _ _ (omega (arith, n, k)) c.if-parts-needed.true;
    }

pub returns : goal.returns
returns c =
    let p = ac_at c.args.payload.now c.from.result c.requires.alternative c.from.ensures in
    let v = c.alternatives_are_exact.ensures.exact.each c.args.payload.now c.requires.alternative in
    let n = names_count _ _ _ _ (p.stand v.0 v.1.1) in
    let k = c.from-needed.ensures in
    let l = c.if-parts-needed.false in
    let t = c.tell_references.ensures v.0 v.1.1 in
    record {
      in_set = c.requires.alternative;
      short = c.requires.short;
      alternative = v.0;
      stands = v.1.1;
      gives = is_enough _ _ _ _ _ (omega (arith, n, k)) (omega (arith, l)) t.0 t.1 t.2 t.3;
    }
