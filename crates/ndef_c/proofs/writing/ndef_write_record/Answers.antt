use Rattle.std.proofs.Common.{rules, ◌≡◌, ◌∙◌, ap, arith, length}
use Rattle.ndef_format.specs.Messages.{Item}
use Rattle.ndef_c.specs.Writes.{item_of, octets_by, asked, asked_octets}
use Rattle.ndef_c.proofs.Puts.{counted, gives_puts, no_room}
use Rattle.ndef_c.proofs.Records.{asked_by}
use Rattle.ndef_c.proofs.writing.ndef_write_record.Goals as goal

pub returns-then-buffer-count-clause-written : goal.returns-then-buffer-count-clause-written
returns-then-buffer-count-clause-written c = λ may.
    let a = c.args in
    let way = c.way_of-way.result in
    let w = c.way_of-way.ensures in
    let m : Item = asked a.how.now a.kind.now a.id.now a.payload.now in
    let same : octets_by way (item_of c.in-Some.parts) ≡ asked_octets a.how.now m = ap (octets_by way) c.in-Some.ensures.some ∙ asked_by a.how.now way m w.first w.last w.form w.size may.lengths.payload in
    let bound = c.put_record-last.ensures.bound in
    let n = counted c.new-counter.ensures.at c.put_record-last.ensures.put c.at.ensures (omega (arith, bound)) ∙ ap length same in
    let small = c.if-buffer-count.true in
    no_room _ _ _ n (omega (arith, n, small))

pub returns-clause-written : goal.returns-clause-written
returns-clause-written c = λ may.
    let a = c.args in
    let way = c.way_of-way.result in
    let w = c.way_of-way.ensures in
    let m : Item = asked a.how.now a.kind.now a.id.now a.payload.now in
    let same : octets_by way (item_of c.in-Some.parts) ≡ asked_octets a.how.now m = ap (octets_by way) c.in-Some.ensures.some ∙ asked_by a.how.now way m w.first w.last w.form w.size may.lengths.payload in
    let bound = c.put_record-last.ensures.bound in
    let n = counted c.new-counter.ensures.at c.put_record-last.ensures.put c.at.ensures (omega (arith, bound)) in
    gives_puts _ _ _ _ same n c.if-buffer-count.false c.new.ensures.at c.new.ensures.buffer (search rules) c.put_record-last-2.ensures.put
