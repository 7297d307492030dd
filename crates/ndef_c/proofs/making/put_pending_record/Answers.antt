use Rattle.std.proofs.Common.{[], ap, length, length-append, refl, subst, arith}
use Rattle.ndef_message.specs.declared.form.Form.TheVariants.{Short}
use Rattle.ndef_c.specs.Contents.{content_octets}
use Rattle.ndef_c.specs.PendingRecord.{made_item}
use Rattle.ndef_c.specs.Buffers.{Puts}
use Rattle.ndef_c.specs.Writes.{octets_of_piece}
use Rattle.ndef_c.proofs.PendingRecord.{whole_as}
use Rattle.ndef_c.proofs.Puts.{puts_on}
use Rattle.ndef_c.proofs.making.put_pending_record.Goals as goal

pub returns : goal.returns
returns c =
    let made = c.args.made.now in
    let part = content_octets made.content in
    let head = c.head_of.result in
    let same = whole_as Short c.args.ends.first c.args.ends.last (made_item made) head part refl c.head_of.ensures.head in
    let e = ap length same in
    let n = length-append (octets_of_piece head made.kind.now made.id.now []) part in
    let most = c.put_piece.ensures.most in
    let kind = c.requires.lengths.kind in
    let id = c.requires.lengths.id in
    let payload = c.requires.lengths.payload in
    record {
      put = subst (λ x. Puts c.args.out.now x c.put_content.new.out) same (puts_on c.put_piece.ensures.put c.put_content.ensures);
      bound = omega (arith, e, n, most, kind, id, payload);
    }
