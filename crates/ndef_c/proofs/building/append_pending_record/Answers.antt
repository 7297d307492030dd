use Rattle.std.proofs.Common.{rules, ◌==◌, true, refl, arith}
use Rattle.ndef_c.specs.PendingRecord.{made_item, whole_octets}
use Rattle.ndef_c.specs.declared.making.Ends.{Ends}
use Rattle.ndef_c.proofs.Built.{put_after}
use Rattle.ndef_c.proofs.PendingRecord.{whole_begins}
use Rattle.ndef_c.proofs.Puts.{put_at, put_to}
use Rattle.ndef_c.proofs.building.append_pending_record.Goals as goal

pub returns : goal.returns
returns c =
    let a = c.args in
    let ends : Ends = record { first = a.builder.now.length == 0; last = true } in
    let octets = whole_octets ends (made_item a.made.now) in
    let p = c.put_pending_record.ensures in
    let bound = p.bound in
    let n = put_to a.builder.now.length c.new-counter.ensures.at p.put c.at.ensures (omega (arith, bound)) in
    let l = c.if-buffer-count.false in
    let size = c.reopen.ensures.size in
    record {
      count_is = n;
      fits = λ _. (
        refl,
        put_after a.buffer.now c.reopen.new.buffer _ octets a.builder.now _ c.reopen.ensures.front c.reopen.ensures.following n
            (put_at _ _ _ c.new.ensures.at c.new.ensures.buffer (search rules) (omega (arith, n, l, size)) c.put_pending_record-2.ensures.put),
        record { length_is = n; records = refl; at = 0; begins_at = whole_begins ends.first true (made_item a.made.now); last_at = omega arith },
      );
      too_small = λ h. absurd (omega (arith, l, h));
    }
