use Rattle.std.proofs.Common.{rules, refl, arith}
use Rattle.ndef_c.specs.Writes.{item_of, octets_by}
use Rattle.ndef_c.proofs.Built.{put_after}
use Rattle.ndef_c.proofs.Puts.{put_at, put_to}
use Rattle.ndef_c.proofs.building.append.Goals as goal

pub returns : goal.returns
returns c =
    let a = c.args in
    let octets = octets_by a.way (item_of a.parts.now) in
    let p = c.put_record-last.ensures in
    let from = c.new-counter.ensures.at in
    let bound = p.bound in
    let n = put_to a.builder.now.length from p.put c.at.ensures (omega (arith, bound)) in
    let l = c.if-buffer-count.false in
    let size = c.reopen.ensures.size in
    let last = p.last.2 in
    record {
      count_is = n;
      fits = λ _. (
        refl,
        put_after a.buffer.now c.reopen.new.buffer _ octets a.builder.now _ c.reopen.ensures.front c.reopen.ensures.following n
            (put_at _ _ _ c.new.ensures.at c.new.ensures.buffer (search rules) (omega (arith, n, l, size)) c.put_record-last-2.ensures.put),
        record { length_is = n; records = refl; at = p.last.0; begins_at = p.last.1; last_at = omega (arith, last, from) },
      );
      too_small = λ h. absurd (omega (arith, l, h));
    }
