-- The records of a nested message, counted and linked one after another.
use Rattle.std.proofs.Common.{◌≡◌, ℕ, ◌+◌, ◌-◌, ◌<◌, ◌≤◌, get_or, List, [], ◌∷◌, ◌++◌, length, take, drop, refl, sym, ap, ◌∙◌, subst, arith, inl, append-nil, append_assoc, Option}
use Rattle.std.proofs.Math.Seq.{take-length}
use Rattle.std.specs.List.{AllByRecursion}
use Rattle.ndef_format.specs.Messages.{Item}
use Rattle.ndef_format.specs.declared.kind.Kind.{Kind}
use Rattle.ndef_format.specs.declared.kind.Kind.TheVariants as kinds
use Rattle.ndef_types.specs.Links.{IsIndexOf}
use Rattle.ndef_types.specs.Values.{AcValue, StandsForAc}
use Rattle.ndef_types.specs.declared.link.Link.{Link}
use Rattle.ndef_cli.specs.Quoting.{Text}
use Rattle.ndef_tool.specs.Linking.{AreCarrierLines, IsCarrier, link_line, link_text}
use Rattle.ndef_tool.specs.Members.{Counts}
use Rattle.ndef_tool.specs.declared.nested.Member.{Member}

-- what a slice pattern leaves after the first
others : {A : Type 0} (x : A) (xs : List A) → take (length (x ∷ xs) - 1) (drop 1 (x ∷ xs)) ≡ xs
others x xs = let n : length (x ∷ xs) - 1 ≡ length xs = omega arith in ap (λ k. take k xs) n ∙ take-length xs

-- ---- counted

-- whatever is counted in those that are left is to be added
abbrev pub IsCounting : Kind → (all rest : List Member) → (count : ℕ) → Type 0
IsCounting kind all rest count = record {
  few : count + length rest ≤ length all;
  on : (k : ℕ) → Counts kind rest k → Counts kind all (count + k);
}

pub one_counted : (kind : Kind) (all rest : List Member) (d : Member) (count : ℕ) → 1 ≤ length rest → (get_or rest 0 d).kind ≡ kind → IsCounting kind all rest count
    → IsCounting kind all (take (length rest - 1) (drop 1 rest)) (count + 1)
one_counted kind all [] d count l e h = absurd (omega (arith, l))
one_counted kind all (m ∷ ms) d count l e h =
    let same = others m ms in
    record {
      few = omega (arith, h.few, ap length same);
      on = λ k c.
          let n : count + (1 + k) ≡ count + 1 + k = omega arith in
          subst (Counts kind all) n (h.on (1 + k) (inl (e, k, refl, subst (λ xs. Counts kind xs k) same c)));
    }

pub all_counted : (kind : Kind) (all rest : List Member) (count : ℕ) → length rest < 1 → IsCounting kind all rest count → Counts kind all count
all_counted kind all [] count l h = let n : count + 0 ≡ count = omega arith in subst (Counts kind all) n (h.on 0 refl)
all_counted kind all (m ∷ ms) count l h = absurd (omega (arith, l))

-- ---- linked

-- whatever follows the lines so far is the lines of those that are left
abbrev pub IsLinking : (outer : List Item) → (all rest : List Member) → (before lines : Text) → (number : ℕ) → Type 0
IsLinking outer all rest before lines number = record {
  few : number + length rest ≤ length all;
  carriers : AllByRecursion IsCarrier rest;
  on : (done : Text) × (lines ≡ before ++ done)
      × ((more : Text) → AreCarrierLines outer (number + 1) rest more → AreCarrierLines outer 1 all (done ++ more));
}

pub first_carrier : (rest : List Member) (d : Member) → 1 ≤ length rest → AllByRecursion IsCarrier rest → IsCarrier (get_or rest 0 d)
first_carrier [] d l h = absurd (omega (arith, l))
first_carrier (m ∷ ms) d l h = h.0

pub one_linked : (outer : List Item) (all rest : List Member) (before lines new : Text) (number : ℕ) (d : Member) (v : AcValue) (index : Option ℕ) → 1 ≤ length rest
    → (get_or rest 0 d).kind ≡ kinds.Alternative → StandsForAc (get_or rest 0 d).payload.now v → IsIndexOf outer v.reference index
    → new ≡ lines ++ link_text (number + 1) v.power v.reference index → IsLinking outer all rest before lines number
    → IsLinking outer all (take (length rest - 1) (drop 1 rest)) before new (number + 1)
one_linked outer all [] before lines new number d v index l k s x e h = absurd (omega (arith, l))
one_linked outer all (m ∷ ms) before lines new number d v index l k s x e h =
    let same = others m ms in
    let link : Link = record { ac = v; index = index } in
    let text = link_line (number + 1) link in
    let done = h.on.0 in
    record {
      few = omega (arith, h.few, ap length same);
      carriers = subst (AllByRecursion IsCarrier) (sym same) h.carriers.1;
      on = (
        done ++ text,
        e ∙ ap (λ t. t ++ text) h.on.1 ∙ append_assoc before done text,
        λ more c. subst (AreCarrierLines outer 1 all) (sym (append_assoc done text more))
            (h.on.2 (text ++ more) (inl (k, link, more, s, x, subst (λ xs. AreCarrierLines outer (number + 1 + 1) xs more) same c, refl))),
      );
    }

pub all_linked : (outer : List Item) (all rest : List Member) (before lines : Text) (number : ℕ) → length rest < 1 → IsLinking outer all rest before lines number
    → (text : Text) × (lines ≡ before ++ text) × AreCarrierLines outer 1 all text
all_linked outer all [] before lines number l h = (h.on.0, h.on.1, subst (AreCarrierLines outer 1 all) (append-nil h.on.0) (h.on.2 [] refl))
all_linked outer all (m ∷ ms) before lines number l h = absurd (omega (arith, l))
