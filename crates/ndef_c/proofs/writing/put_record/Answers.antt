use Rattle.std.proofs.Common.{◌<◌, ◌++◌, [], length, length-take, length-drop, length-append, append_assoc, sym, ◌∙◌, ap, subst, arith}
use Rattle.ndef_message.specs.WrittenLaws.{first_fields_are, some_left, later-end}
use Rattle.ndef_message.specs.declared.heads.Standing.{Standing}
use Rattle.ndef_c.specs.Buffers.{Puts}
use Rattle.ndef_c.specs.Writes.{item_of, octets_of_piece}
use Rattle.ndef_format.specs.Messages.{Item}
use Rattle.ndef_c.proofs.Ahead.{empty_rest}
use Rattle.ndef_c.proofs.Puts.{puts_on}
use Rattle.ndef_c.proofs.Records.{cutting_at, cutting_end, cutting_on, first_octets, later_octets}
use Rattle.ndef_c.proofs.writing.put_record.Goals as goal

pub loop-last-init : goal.loop-last-init
loop-last-init c =
    let a = c.args in
    let m : Item = item_of a.parts.now in
    let f = c.first_part.ensures in
    let head = c.first_head-head in
    let standing : Standing = record { first = a.way.first; last = a.way.last; alone = c.is_empty-alone.result } in
    let is = head.ensures.head ∙ first_fields_are standing a.way.form m c.first_part.result.0.now in
    let p = ap length f.part ∙ length-take a.way.size m.payload in
    let r = ap length f.rest ∙ length-drop a.way.size m.payload in
    let some = c.requires.some in
    let k1 = c.requires.lengths.kind in
    let k2 = c.requires.lengths.id in
    let k3 = c.requires.lengths.payload in
    let most = c.put_piece.ensures.most in
    let at = c.at-last.ensures in
    record {
      done = octets_of_piece head.result m.kind m.id c.first_part.result.0.now;
      puts = c.put_piece.ensures.put;
      bound = omega (arith, most, k1, k2, k3, p, r, some);
      small = omega (arith, r, k3);
      left = first_octets a.way.form a.way.first a.way.last c.is_empty-alone.result a.way.size m head.result _ _ some f.part f.rest c.is_empty-alone.ensures is;
      begins = 0;
      cutting = cutting_at a.way.form a.way.first a.way.last c.is_empty-alone.result a.way.size m head.result _ _ some f.part f.rest c.is_empty-alone.ensures is;
      last = omega (arith, at);
    }

pub loop-last-preserved : goal.loop-last-preserved
loop-last-preserved c =
    let a = c.args in
    let i = c.loop-last.invariant in
    let rest = c.loop-last.rest.now in
    let some : 0 < length rest = some_left rest _ c.is_empty.ensures c.loop-last-test.true in
    let f = c.first_part-in-loop-last in
    let ends = c.is_empty-in-loop-last in
    let head = c.later_head-head in
    let t = later_octets a.way.form a.way.last ends.result a.way.size rest f.result.0.now f.result.1.now head.result c.requires.some some f.ensures.part f.ensures.rest ends.ensures head.ensures.head in
    let p = ap length f.ensures.part ∙ length-take a.way.size rest in
    let r = ap length f.ensures.rest ∙ length-drop a.way.size rest in
    let here = octets_of_piece head.result [] [] f.result.0.now in
    let k = length-append i.done here in
    let most = c.put_piece-in-loop-last.ensures.most in
    let size = c.requires.some in
    let place = c.requires.place in
    let i1 = i.bound in
    let i2 = i.small in
    let i3 = i.puts.at (omega (arith, place)) in
    let at = c.at-last-in-loop-last.ensures in
    record {
      done = i.done ++ here;
      puts = puts_on i.puts c.put_piece-in-loop-last.ensures.put;
      bound = omega (arith, k, most, p, r, size, some, i1);
      small = omega (arith, r, i2);
      left = append_assoc i.done here _ ∙ ap (λ x. i.done ++ x) t ∙ i.left;
      begins = length i.done;
      cutting = cutting_on ends.result f.result.0.now f.result.1.now head.result i.cutting c.requires.some some f.ensures.part f.ensures.rest ends.ensures head.ensures.head;
      last = omega (arith, at, i1, i3, place);
    }

pub returns : goal.returns
returns c =
    let a = c.args in
    let i = c.loop-last.invariant in
    let none = sym c.is_empty.ensures ∙ c.loop-last-test.false in
    let all = later-end a.way.form a.way.last a.way.size c.loop-last.rest.now i.done _ c.requires.some none i.left in
    let n = ap length all in
    let bound = i.bound in
    record {
      put = subst (λ x. Puts a.out.now x c.loop-last.out) all i.puts;
      bound = omega (arith, n, bound);
      last = (i.begins, cutting_end i.cutting c.requires.some (ap length (empty_rest c.loop-last.rest.now none)), i.last);
    }
