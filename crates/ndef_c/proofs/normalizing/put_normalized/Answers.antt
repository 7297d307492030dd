use Rattle.std.proofs.Common.{◌-◌, ◌++◌, ◌∷◌, [], length, length-append, refl, sym, ◌∙◌, ap, subst, arith, None, true, false, true≢false}
use Rattle.std.specs.List.{AllByRecursion}
use Rattle.ndef_format.specs.Messages.{run_record}
use Rattle.ndef_c.specs.Normalizing.{IsWritable, run_records}
use Rattle.ndef_c.specs.Buffers.{Puts}
use Rattle.ndef_c.specs.Runs.{HasRun}
use Rattle.ndef_c.specs.Writes.{one_by_one, octets_of_piece}
use Rattle.ndef_c.proofs.Messages.{next_at, onward, run_there}
use Rattle.ndef_c.proofs.Puts.{puts_none, puts_on}
use Rattle.ndef_c.proofs.Normalized.{at_start, left_are, none_more, octets_all, octets_on, part_most, part_of, writable_on, writable_there}
use Rattle.ndef_c.proofs.normalizing.put_normalized.Goals as goal

pub loop-found-init : goal.loop-found-init
loop-found-init c = record {
  at = 0;
  within = omega arith;
  rest_is = refl;
  done = [];
  puts = puts_none c.args.out.now (omega arith);
  bound = omega arith;
  left = λ runs b. let k = at_start c.args.bytes.now runs b in ([], k.0, ap (λ rs. one_by_one c.args.form true None (run_records rs)) k.1, tt);
}

pub unreachable-requires : goal.unreachable-requires
unreachable-requires c =
    let i = c.loop-found.invariant in
    c.in_default.ensures.none (subst HasRun (sym i.rest_is) (run_there (i.left c.requires.0 c.requires.1).1))

pub returns-then-not-is_writable-clause-none : goal.returns-then-not-is_writable-clause-none
returns-then-not-is_writable-clause-none c = λ runs b can.
    let i = c.loop-found.invariant in
    let x = c.in-Some.ensures.some in
    let n = next_at x.run c.args.bytes.now c.loop-found.rest.now c.in-Some.found.rest.now i.at i.within i.rest_is x.begins in
    let l = i.left runs b in
    let o = onward c.heads_are_unambiguous.ensures.apart l.1 _ x.run n.begins in
    true≢false (sym ((c.is_writable.ensures _ x).1 (writable_there runs l.0 x.run o.more o.all can.writable)) ∙ c.if-not-is_writable.true)

pub head_of-head-requires : goal.head_of-head-requires
head_of-head-requires c =
    let x = c.in-Some.ensures.some in
    (_, x, (c.is_writable.ensures _ x).0 c.if-not-is_writable.false)

pub copy_pieces-requires : goal.copy_pieces-requires
copy_pieces-requires c = let x = c.in-Some.ensures.some in (x.run, c.in-Some.found.rest.now, x.begins)

pub returns-then-found : goal.returns-then-found
returns-then-found c = record {
  none = tt;
  may = λ runs b.
      let i = c.loop-found.invariant in
      let x = c.in-Some.ensures.some in
      let n = next_at x.run c.args.bytes.now c.loop-found.rest.now c.in-Some.found.rest.now i.at i.within i.rest_is x.begins in
      let l = i.left runs b in
      let o = onward c.heads_are_unambiguous.ensures.apart l.1 _ x.run n.begins in
      let none = none_more o.more (sym o.ends ∙ sym x.last ∙ c.if-found.true) in
      let head = c.head_of-head in
      let octets = octets_of_piece head.result c.in-Some.found.first.kind.now c.in-Some.found.first.id.now [] ++ (run_record x.run).payload in
      let p = part_of l.1 x o c.args.form c.loop-found.first head.result (head.ensures.head _ x) in
      let all = ap length (octets_all c.args.form o.more _ _ none (octets_on p i.done _ l.2)) in
      let more = length-append i.done octets in
      let most = part_most x c.args.form c.loop-found.first head.result (head.ensures.head _ x) in
      let bound = i.bound in
      record {
        writable = subst (λ rs. AllByRecursion IsWritable (run_records rs)) (sym (o.all ∙ ap (λ m. l.0 ++ x.run ∷ m) none)) (writable_on l.0 x.run l.3 ((c.is_writable.ensures _ x).0 c.if-not-is_writable.false));
        fits = omega (arith, all, more, most, bound);
      };
  some = λ runs b.
      let i = c.loop-found.invariant in
      let x = c.in-Some.ensures.some in
      let n = next_at x.run c.args.bytes.now c.loop-found.rest.now c.in-Some.found.rest.now i.at i.within i.rest_is x.begins in
      let l = i.left runs b in
      let o = onward c.heads_are_unambiguous.ensures.apart l.1 _ x.run n.begins in
      let none = none_more o.more (sym o.ends ∙ sym x.last ∙ c.if-found.true) in
      let head = c.head_of-head in
      let p = part_of l.1 x o c.args.form c.loop-found.first head.result (head.ensures.head _ x) in
      subst (λ t. Puts c.args.out.now t c.copy_pieces.new.out) (octets_all c.args.form o.more _ _ none (octets_on p i.done _ l.2))
      (puts_on i.puts (puts_on c.put_piece.ensures.put (c.copy_pieces.ensures x.run _ x.begins)));
}

pub loop-found-preserved : goal.loop-found-preserved
loop-found-preserved c =
    let i = c.loop-found.invariant in
    let x = c.in-Some.ensures.some in
    let n = next_at x.run c.args.bytes.now c.loop-found.rest.now c.in-Some.found.rest.now i.at i.within i.rest_is x.begins in
    let head = c.head_of-head in
    let octets = octets_of_piece head.result c.in-Some.found.first.kind.now c.in-Some.found.first.id.now [] ++ (run_record x.run).payload in
    let more = length-append i.done octets in
    let most = part_most x c.args.form c.loop-found.first head.result (head.ensures.head _ x) in
    let bound = i.bound in
    record {
      at = length c.args.bytes.now - length c.in-Some.found.rest.now;
      within = n.within;
      rest_is = n.rest_is;
      done = i.done ++ octets;
      puts = puts_on i.puts (puts_on c.put_piece.ensures.put (c.copy_pieces.ensures x.run _ x.begins));
      bound = omega (arith, more, most, bound);
      left = λ runs b.
          let l = i.left runs b in
          let o = onward c.heads_are_unambiguous.ensures.apart l.1 _ x.run n.begins in
          let p = part_of l.1 x o c.args.form c.loop-found.first head.result (head.ensures.head _ x) in
          let next = o.left (sym x.last ∙ c.if-found.false) in (
            l.0 ++ x.run ∷ [],
            next,
            ap (λ rs. (i.done ++ octets) ++ one_by_one c.args.form false None (run_records rs)) (left_are o next) ∙ octets_on p i.done _ l.2,
            writable_on l.0 x.run l.3 ((c.is_writable.ensures _ x).0 c.if-not-is_writable.false),
          );
    }

pub loop-found-smaller : goal.loop-found-smaller
loop-found-smaller c =
    let i = c.loop-found.invariant in
    let x = c.in-Some.ensures.some in
    (next_at x.run c.args.bytes.now c.loop-found.rest.now c.in-Some.found.rest.now i.at i.within i.rest_is x.begins).shorter
