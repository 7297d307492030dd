use Rattle.std.proofs.Common.{length, sym, ap, subst, arith}
use Rattle.ndef_format.specs.Texts.{IsText}
use Rattle.ndef_c.specs.Payloads.{IsTextAt}
use Rattle.ndef_c.proofs.TitleTexts.{lies_deeper}
use Rattle.ndef_c.proofs.titles.text_of.Goals as goal

pub part_in-requires : goal.part_in-requires
part_in-requires c = (c.requires.text.0, c.requires.text.1)

pub text_at-text-requires : goal.text_at-text-requires
text_at-text-requires c =
    let t = c.requires.text in
    let part = c.part_in.ensures t.0 t.1 in
    let e = ap length part in
    let n = t.1.part.count_is in
    let l = t.1.part.within in
    let bound = c.requires.bound in
    record { text = subst IsText (sym part) t.2; short = omega (arith, e, n, l, bound) }

pub returns : goal.returns
returns c = λ at r.
    let t = subst (λ p. IsTextAt p c.text_at-text.result) (c.part_in.ensures at r) c.text_at-text.ensures in
    let from = t.language_place in
    let following = t.text_place in
    record {
      language = lies_deeper _ _ _ _ _ _ _ r.part t.language;
      text = lies_deeper _ _ _ _ _ _ _ r.part t.text;
      language_place = omega (arith, from);
      text_place = omega (arith, following);
      utf16 = t.utf16;
    }
