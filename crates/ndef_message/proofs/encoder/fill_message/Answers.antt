use Rattle.std.proofs.Common.{◌≡◌, ◌∙◌, ◌++◌, ◌+◌, ap, sym, arith, subst, append_assoc}
use Rattle.ndef_message.specs.Machine.Encoding.{message_left}
use Rattle.ndef_message.specs.Machine.Stepping.{PutsAt}
use Rattle.ndef_message.proofs.Putting.{puts_on}
use Rattle.ndef_message.proofs.encoder.fill_message.Goals as goal

pub records-preserved : goal.records-preserved
records-preserved c =
    let a = c.args in
    let i = c.records.invariant in
    let n = c.fill_record-next in
    let w = n.ensures.written in
    let zero : c.records.end ≡ 0 + c.records.end = omega arith in
    record {
      text = i.text ++ w.0;
      puts = puts_on i.puts (subst (λ k. PutsAt k w.0 c.records.buffer n.new.buffer n.result.count) zero w.1);
      is = n.ensures.is;
      left = i.left ∙ ap (λ l. i.text ++ l) w.2 ∙ sym (append_assoc i.text w.0 (message_left a.form a.size a.message.now n.result.spot));
    }
