use Rattle.std.proofs.Common.{suc, ◌+◌, take, subst, arith}
use Rattle.ndef_lang.specs.Language.{Continues}
use Rattle.ndef_lang.specs.Machine.Utf16.{SpelledRest}
use Rattle.ndef_lang.proofs.Utf16Whole.{follows_unit, front_whole}
use Rattle.ndef_lang.proofs.utf16.whole_front.Goals as goal

pub loop-at-preserved-then-not-open : goal.loop-at-preserved-then-not-open
loop-at-preserved-then-not-open c =
    let inv = c.loop-at.invariant in
    let bytes = c.args.bytes.now in
    let at = c.loop-at.at in
    let two = c.loop-at-test.true in
    let units = inv.even in
    let even = units.1 in
    let follows = follows_unit c.args.little c.args.paired c.loop-at.open c.in-Some.next bytes at two inv.follows c.in-Some.ensures in
    record {
      within = omega arith;
      even = (suc units.0, omega arith);
      follows = follows;
      front = front_whole c.args.little c.args.paired bytes (at + 2) (suc units.0) (omega arith) (omega arith)
          (subst (λ v. Continues (SpelledRest c.args.little c.args.paired) (SpelledRest c.args.little v) (take (at + 2) bytes)) c.if-not-open.true follows);
    }

pub loop-at-preserved : goal.loop-at-preserved
loop-at-preserved c =
    let inv = c.loop-at.invariant in
    let bytes = c.args.bytes.now in
    let at = c.loop-at.at in
    let two = c.loop-at-test.true in
    let units = inv.even in
    let even = units.1 in
    record {
      within = omega arith;
      even = (suc units.0, omega arith);
      follows = follows_unit c.args.little c.args.paired c.loop-at.open c.in-Some.next bytes at two inv.follows c.in-Some.ensures;
      front = inv.front;
    }
