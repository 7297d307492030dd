use Rattle.std.proofs.Common.{◌<◌, arith, ap, ◌∙◌}
use Rattle.std.specs.Prelude.{is_some}
use mir.Val.{bool_byte}
use Rattle.ndef_format.specs.Records.{bit, code}
use Rattle.ndef_piece.specs.HeaderLaws.{bit_below}
use Rattle.ndef_piece.proofs.HeaderOctet.{flags_or, byte_bit}
use Rattle.ndef_piece.proofs.header.header_octet.Goals as goal

pub returns : goal.returns
returns c =
    let h = c.args.head.now in
    let b = bit_below h.first in
    let e = bit_below h.last in
    let k = bit_below h.chunked in
    let s = bit_below h.short in
    let i = bit_below (is_some h.id_length) in
    let t : code h.tnf < 8 = omega (arith, c.code.ensures.value, c.code.ensures.bound) in
    rw (
      c.from.ensures ∙ byte_bit h.first,
      c.from-2.ensures ∙ byte_bit h.last,
      c.from-3.ensures ∙ byte_bit h.chunked,
      c.from-4.ensures ∙ byte_bit h.short,
      c.from-5.ensures ∙ ap bool_byte c.is_some.ensures ∙ byte_bit (is_some h.id_length),
      c.code.ensures.value,
    )
    (flags_or (bit h.first) (bit h.last) (bit h.chunked) (bit h.short) (bit (is_some h.id_length)) (code h.tnf) b e k s i t)
