use Rattle.std.proofs.Common.{◌≡◌, ◌+◌, ◌-◌, take, drop, ◌++◌, ◌∷◌, [], sym, ◌∙◌, ap, subst, arith}
use Rattle.ndef_format.specs.Messages.{payload_of, run_record}
use Rattle.ndef_c.specs.Buffers.{Puts}
use Rattle.ndef_c.proofs.Followed.{one_record, payload_on}
use Rattle.ndef_c.proofs.PieceParts.{none_left, passes, passing_at}
use Rattle.ndef_c.proofs.Puts.{puts_none, puts_on}
use Rattle.ndef_c.proofs.payload.copy_pieces.Goals as goal

pub loop-part-init : goal.loop-part-init
loop-part-init c =
    let r = c.requires in
    let e = c.into_iter-part-iterator.ensures.into_iter_gives in
    let from = c.from-part-items.ensures in
    record {
      run = r.0;
      end = r.1;
      begins = r.2;
      passed = [];
      passing = passing_at r.0 r.1 c.args.bytes.now 0 r.2 e from.bytes from.at from.follows;
      puts = puts_none c.args.out.now (omega arith);
    }

pub returns : goal.returns
returns c = λ run rest b.
    let i = c.loop-part.invariant in
    let all = none_left i.passing c.in-None.ensures.steps in
    let same = (one_record i.run run i.end rest c.args.bytes.now i.begins b).0 in
    subst (λ p. Puts c.args.out.now p c.loop-part.out) (ap payload_of (sym all) ∙ ap (λ r. (run_record r).payload) same) i.puts

pub loop-part-preserved : goal.loop-part-preserved
loop-part-preserved c =
    let i = c.loop-part.invariant in
    let p = passes i.passing c.in-Some.ensures.steps in
    let part = c.in-Some.part in
    let cut : part.at + part.length - part.at ≡ part.length = omega arith in
    let are = ap (λ n. take n (drop part.at c.args.bytes.now)) cut ∙ p.is.lies.are in
    let on = payload_on i.passed p.piece in
    record {
      run = i.run;
      end = i.end;
      begins = i.begins;
      passed = i.passed ++ p.piece ∷ [];
      passing = p.on;
      puts = subst (λ x. Puts c.args.out.now x c.put.new.self) (ap (λ x. payload_of i.passed ++ x) are ∙ sym on) (puts_on i.puts c.put.ensures);
    }
