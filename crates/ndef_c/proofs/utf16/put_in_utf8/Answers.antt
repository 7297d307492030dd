use Rattle.std.proofs.Common.{sym, ◌∙◌, ap, arith, length}
use Rattle.std.specs.Prelude.{encode_utf8}
use Rattle.ndef_message.specs.WrittenLaws.{some_left}
use Rattle.ndef_c.proofs.Ahead.{empty_rest}
use Rattle.ndef_c.proofs.Characters.{all_put, next_of, putting_at, putting_on, shorter}
use Rattle.ndef_c.proofs.Puts.{puts_none}
use Rattle.ndef_c.proofs.utf16.put_in_utf8.Goals as goal

pub loop-rest-init : goal.loop-rest-init
loop-rest-init c = λ cs a. putting_at a (puts_none c.args.out.now (omega arith))

pub first_character-c-requires : goal.first_character-c-requires
first_character-c-requires c =
    let t = c.loop-rest.invariant c.requires.0 c.requires.1 in
    let n = next_of c.args.little t.left c.loop-rest.rest.now t.are (some_left c.loop-rest.rest.now _ c.is_empty.ensures c.loop-rest-test.true) in
    (n.c, n.more, n.are)

pub loop-rest-smaller : goal.loop-rest-smaller
loop-rest-smaller c =
    let t = c.loop-rest.invariant c.requires.0 c.requires.1 in
    let n = next_of c.args.little t.left c.loop-rest.rest.now t.are (some_left c.loop-rest.rest.now _ c.is_empty.ensures c.loop-rest-test.true) in
    let s = shorter c.args.little n.c n.more _ _ n.are (c.first_character-c.ensures n.c n.more n.are).1 in
    omega (arith, s)

pub loop-rest-preserved : goal.loop-rest-preserved
loop-rest-preserved c = λ cs a.
    let t = c.loop-rest.invariant cs a in
    let n = next_of c.args.little t.left c.loop-rest.rest.now t.are (some_left c.loop-rest.rest.now _ c.is_empty.ensures c.loop-rest-test.true) in
    let f = c.first_character-c.ensures n.c n.more n.are in
    putting_on t n.c n.more _ _ n.is (c.as_bytes.ensures.value ∙ c.encode_utf8.ensures.value ∙ ap encode_utf8 f.0) f.1 c.put.ensures

pub returns : goal.returns
returns c = λ cs a. all_put (c.loop-rest.invariant cs a) (ap length (empty_rest c.loop-rest.rest.now (sym c.is_empty.ensures ∙ c.loop-rest-test.false)))
