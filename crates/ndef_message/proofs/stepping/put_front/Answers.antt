use Rattle.ndef_message.proofs.Putting.{puts_rest}
use Rattle.ndef_message.proofs.stepping.put_front.Goals as goal

pub returns-clause-put : goal.returns-clause-put
returns-clause-put c =
    let a = c.args in
    let e = c.rest_of.ensures in
    let f = c.rest_of-2.ensures in
    let g = c.rest_of-3.ensures in
    let k = c.saturating_sub-after_head.ensures in
    let l = c.saturating_sub-after_kind.ensures in
    let p1 = c.put-of_head.ensures in
    let p2 = c.put-of_kind.ensures in
    let p3 = c.put-of_id.ensures in
    puts_rest {b = c.put-of_head.new.buffer} {c = c.put-of_kind.new.buffer} a.out a.head.now a.kind.now a.id.now
    (rw (← e) p1.put) (rw (← k, ← f) p2.put) (rw (← k, ← l, ← g) p3.put)
    (rw (← e) p1.count) (rw (← k, ← f) p2.count) (rw (← k, ← l, ← g) p3.count)
