-- `==` of texts and of alternative carriers says that they are the same.
use Rattle.std.proofs.Common.{rules, ◌≡◌, ℕ, List, ap, encode_utf8_all}
use Rattle.std.proofs.lemmas.Bool.Decides.{Decides-and}
use Rattle.std.proofs.lemmas.Str.{encodes_same}
use Rattle.std.specs.Bool.{Decides}
use Rattle.std.specs.Cmp.{unsigned_Decides}
use Rattle.std.specs.Cmp.Lexicographic.{pointwise, pointwise_decides}
use Rattle.ndef_types.specs.contracts.encoding.EncodingPartialEq.TheImpl as encodings
use Rattle.ndef_types.specs.contracts.power.PowerPartialEq.TheImpl as powers
use Rattle.ndef_types.specs.declared.encoding.Encoding.{Encoding}
use Rattle.ndef_types.specs.declared.power.Power.{Power}
use Rattle.ndef_types.specs.Equality.{ac_eq, octets_eq, text_eq}
use Rattle.ndef_types.specs.Values.{AcValue, TextValue}

octets-Decides : (xs ys : List ℕ) → Decides (octets_eq xs ys) (xs ≡ ys)
octets-Decides = pointwise_decides unsigned_Decides

names-Decides : (xs ys : List (List ℕ)) → Decides (pointwise octets_eq xs ys) (xs ≡ ys)
names-Decides = pointwise_decides octets-Decides

encodings-Decides : (a b : Encoding) → Decides (encodings.ghosts.eq a b) (a ≡ b)
encodings-Decides a b = search rules

powers-Decides : (a b : Power) → Decides (powers.ghosts.eq a b) (a ≡ b)
powers-Decides a b = search rules

pub text-Decides : (t u : TextValue) → Decides (text_eq t u) (t ≡ u)
text-Decides t u =
    let parts = Decides-and _ _ (encodings-Decides t.encoding u.encoding) (Decides-and _ _ (octets-Decides t.language u.language) (octets-Decides (encode_utf8_all t.text) (encode_utf8_all u.text))) in (
      (λ h. let p = parts.0 h in let text = encodes_same t.text u.text p.1.1 in (λ i. record { encoding = p.0 i; language = p.1.0 i; text = text i })),
      (λ e. parts.1 (ap (λ v. v.encoding) e, (ap (λ v. v.language) e, ap (λ v. encode_utf8_all v.text) e))),
    )

pub ac-Decides : (a b : AcValue) → Decides (ac_eq a b) (a ≡ b)
ac-Decides a b =
    let parts = Decides-and _ _ (powers-Decides a.power b.power) (Decides-and _ _ (octets-Decides a.reference b.reference) (Decides-and _ _ (names-Decides a.auxiliary b.auxiliary) (octets-Decides a.rest b.rest))) in (
      (λ h. let p = parts.0 h in (λ i. record { power = p.0 i; reference = p.1.0 i; auxiliary = p.1.1.0 i; rest = p.1.1.1 i })),
      (λ e. parts.1 (ap (λ v. v.power) e, (ap (λ v. v.reference) e, (ap (λ v. v.auxiliary) e, ap (λ v. v.rest) e)))),
    )
