use Rattle.std.proofs.Common.{◌+◌, ◌∷◌, [], length, sym, ap, subst, append_assoc}
use Rattle.ndef_c.specs.Contents.{content_octets}
use Rattle.ndef_c.specs.Buffers.{Puts}
use Rattle.ndef_c.proofs.Puts.{puts_on}
use Rattle.ndef_c.proofs.content.put_content.Goals as goal

pub returns-in-Utf16 : goal.returns-in-Utf16
returns-in-Utf16 c =
    let new = c.put_units.new.out in
    let language = c.in-Utf16.language.now in
    subst (λ x. Puts c.args.out.now x new) (sym (ap content_octets c.in-Utf16.is))
    (subst (λ x. Puts c.args.out.now ((128 + length language) ∷ x) new) (append_assoc language (0xfe ∷ 0xff ∷ []) _) (puts_on c.put_parts-in-Utf16.ensures c.put_units.ensures))
