use Rattle.std.proofs.Common.{◌≡◌, take, sym, ◌∙◌, ap, subst, take_at}
use Rattle.ndef_format.specs.Records.{octets}
use Rattle.ndef_piece.specs.Heads.{written_fields}
use Rattle.ndef_c.specs.Buffers.{Puts}
use Rattle.ndef_c.proofs.Puts.{puts_on}
use Rattle.ndef_c.proofs.writing.put_piece.Goals as goal

pub returns-clause-put : goal.returns-clause-put
returns-clause-put c =
    let head = octets (written_fields c.args.head.now) in
    let w = c.write_head-count in
    let text : take w.result w.new.out ≡ head = ap (take w.result) w.ensures.written ∙ take_at head _ w.result (sym w.ensures.count) in
    puts_on (subst (λ x. Puts c.args.out.now x c.put.new.self) text c.put.ensures) (puts_on c.put-2.ensures (puts_on c.put-3.ensures c.put-4.ensures))
