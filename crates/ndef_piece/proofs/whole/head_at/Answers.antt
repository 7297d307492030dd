use Rattle.std.proofs.Common.{refl}
use Rattle.ndef_value.specs.SliceLaws.{each_octet}
use Rattle.ndef_piece.proofs.WholeHeads.{head_from, then_is}
use Rattle.ndef_piece.proofs.whole.head_at.Goals as goal

pub returns : goal.returns
returns c =
    let n = c.in_ok-payload_length in
    let i = c.in_ok-id_length in
    head_from c.args.spot.now c.args.bytes.now _ (each_octet _ c.type_inv.bytes) c.in-len2-up.len_at_least n.payload_length i.id_length n.rest.now i.rest.now
    n.ensures.small n.ensures.form n.ensures.joined i.ensures.joined
    (rw (c.is_set.ensures, c.is_set-2.ensures, c.is_set-3.ensures, c.is_set-4.ensures, c.header_tnf.ensures, c.then_some.ensures, c.is_set-5.ensures, then_is) refl)
    (rw (← c.from.ensures, ← c.from-2.ensures) (c.may_occur.ensures c.if-not-may_occur.false))
