use Rattle.std.proofs.Common.{◌∙◌}
use Rattle.ndef_value.specs.SliceLaws.{each_octet}
use Rattle.ndef_piece.proofs.WholePieces.{whole_from}
use Rattle.ndef_piece.proofs.whole.whole_piece.Goals as goal

pub returns-clause-piece : goal.returns-clause-piece
returns-clause-piece c =
    let n = c.in_ok-payload_length in
    let i = c.in_ok-id_length in
    let k = c.in_ok-kind in
    let d = c.in_ok-id in
    let p = c.in_ok-payload in
    whole_from c.args.bytes.now (each_octet _ c.type_inv.bytes) c.in-len2-up.len_at_least n.payload_length i.id_length n.rest.now i.rest.now k.kind.now k.rest.now d.id.now d.rest.now p.payload.now p.rest.now
    n.ensures.small n.ensures.form n.ensures.joined i.ensures.joined i.ensures.clear (k.ensures.length ∙ c.from.ensures) k.ensures.joined (d.ensures.length ∙ c.from-2.ensures) d.ensures.joined p.ensures.length p.ensures.joined
