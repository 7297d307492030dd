use Rattle.std.proofs.Common.{rules, refl, arith}
use Rattle.ndef_c.proofs.Characters.{encoded_length}
use Rattle.ndef_c.proofs.Puts.{counted, gives_puts, no_room}
use Rattle.ndef_c.proofs.utf16.give_in_utf8.Goals as goal

pub returns-then-buffer-count : goal.returns-then-buffer-count
returns-then-buffer-count c = λ cs a.
    let most = encoded_length c.args.little cs c.args.octets.now a in
    let short = c.requires.short in
    let n = counted c.new-counter.ensures.at (c.put_in_utf8.ensures cs a) c.at.ensures (omega (arith, most, short)) in
    let small = c.if-buffer-count.true in
    no_room _ _ _ n (omega (arith, n, small))

pub returns : goal.returns
returns c = λ cs a.
    let most = encoded_length c.args.little cs c.args.octets.now a in
    let short = c.requires.short in
    let n = counted c.new-counter.ensures.at (c.put_in_utf8.ensures cs a) c.at.ensures (omega (arith, most, short)) in
    gives_puts _ _ _ _ refl n c.if-buffer-count.false c.new.ensures.at c.new.ensures.buffer (search rules) (c.put_in_utf8-2.ensures cs a)
