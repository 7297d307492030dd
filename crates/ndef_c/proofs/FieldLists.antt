-- Fields that follow one another without a gap.
use Rattle.std.proofs.Common.{◌≡◌, ℕ, ◌+◌, ◌<◌, ◌≤◌, List, [], ◌∷◌, ◌++◌, length, length-append, ◌∙◌, ap, subst, arith, sym, append_assoc}
use Rattle.ndef_fields.specs.FieldLaws.{AreGapless}
use Rattle.ndef_fields.specs.declared.field.Field.{Field}
use Rattle.ndef_c.specs.Fields.{OneFieldWith, StepsLeadOn}

-- they are no more than the bytes
pub gapless_count : (at : ℕ) (reported : List Field) (end : ℕ) → AreGapless at reported end → at + length reported ≤ end
gapless_count at [] end h = omega (arith, h)
gapless_count at (f ∷ reported) end h =
    let n = gapless_count (at + f.length) reported end h.2 in
    let some = h.1 in
    omega (arith, n, some)

-- each of them ends within the bytes
pub ends_within : (reported before following : List Field) (at end : ℕ) (f : Field) → AreGapless at reported end → reported ≡ before ++ f ∷ following → f.at + f.length ≤ end
ends_within [] before following at end f h e =
    let n = ap length e in
    let k = length-append before (f ∷ following) in
    absurd (omega (arith, n, k))
ends_within (t ∷ reported) [] following at end f h e =
    let same : t ≡ f = cc in
    let a = ap (λ x. x.at) same in
    let b = ap (λ x. x.length) same in
    let first = h.0 in
    let n = gapless_count (at + t.length) reported end h.2 in
    omega (arith, a, b, first, n)
ends_within (t ∷ reported) (b ∷ before) following at end f h e =
    let rest : reported ≡ before ++ f ∷ following = cc in
    ends_within reported before following (at + t.length) end f h.2 rest

-- none of them lies before the first
after_first : (reported before following : List Field) (at end : ℕ) (f : Field) → AreGapless at reported end → reported ≡ before ++ f ∷ following → at ≤ f.at
after_first [] before following at end f h e =
    let n = ap length e in
    let k = length-append before (f ∷ following) in
    absurd (omega (arith, n, k))
after_first (t ∷ reported) [] following at end f h e =
    let same : t ≡ f = cc in
    let a = ap (λ x. x.at) same in
    let first = h.0 in
    omega (arith, a, first)
after_first (t ∷ reported) (b ∷ before) following at end f h e =
    let rest : reported ≡ before ++ f ∷ following = cc in
    let n = after_first reported before following (at + t.length) end f h.2 rest in
    omega (arith, n)

-- the byte at a place stands in one of them
one_of_two : (reported before following front back : List Field) (at end place : ℕ) (f g : Field) → AreGapless at reported end → reported ≡ before ++ f ∷ following → reported ≡ front ++ g ∷ back
    → f.at ≤ place → place < f.at + f.length → g.at ≤ place → place < g.at + g.length → f ≡ g
one_of_two [] before following front back at end place f g h e k a b c d =
    let n = ap length e in
    let m = length-append before (f ∷ following) in
    absurd (omega (arith, n, m))
one_of_two (t ∷ reported) [] following [] back at end place f g h e k a b c d = cc
one_of_two (t ∷ reported) [] following (u ∷ front) back at end place f g h e k a b c d =
    let same : t ≡ f = cc in
    let rest : reported ≡ front ++ g ∷ back = cc in
    let l = after_first reported front back (at + t.length) end g h.2 rest in
    let first = h.0 in
    let n = ap (λ x. x.at) same in
    let m = ap (λ x. x.length) same in
    absurd (omega (arith, l, first, n, m, b, c))
one_of_two (t ∷ reported) (u ∷ before) following [] back at end place f g h e k a b c d =
    let same : t ≡ g = cc in
    let rest : reported ≡ before ++ f ∷ following = cc in
    let l = after_first reported before following (at + t.length) end f h.2 rest in
    let first = h.0 in
    let n = ap (λ x. x.at) same in
    let m = ap (λ x. x.length) same in
    absurd (omega (arith, l, first, n, m, a, d))
one_of_two (t ∷ reported) (u ∷ before) following (v ∷ front) back at end place f g h e k a b c d =
    let left : reported ≡ before ++ f ∷ following = cc in
    let right : reported ≡ front ++ g ∷ back = cc in
    one_of_two reported before following front back (at + t.length) end place f g h.2 left right a b c d

pub one_field_with : OneFieldWith
one_field_with reported end place f g h i j = one_of_two reported i.before i.following j.before j.following 0 end place f g h i.split j.split i.from i.to j.from j.to

-- the next one begins where one ends
next_begins : (reported before following : List Field) (at end : ℕ) (f g : Field) → AreGapless at reported end → reported ≡ before ++ f ∷ g ∷ following → (g.at ≡ f.at + f.length) × (0 < g.length)
next_begins [] before following at end f g h e =
    let n = ap length e in
    let m = length-append before (f ∷ g ∷ following) in
    absurd (omega (arith, n, m))
next_begins (t ∷ reported) [] following at end f g h e =
    let same : t ≡ f = cc in
    let rest : reported ≡ g ∷ following = cc in
    let first = h.0 in
    let n = ap (λ x. x.at) same in
    let m = ap (λ x. x.length) same in
    let next = subst (λ fs. AreGapless (at + t.length) fs end) rest h.2 in
    let begins = next.0 in
    (omega (arith, begins, first, n, m), next.1)
next_begins (t ∷ reported) (b ∷ before) following at end f g h e =
    let rest : reported ≡ before ++ f ∷ g ∷ following = cc in
    next_begins reported before following (at + t.length) end f g h.2 rest

pub steps_lead_on : StepsLeadOn
steps_lead_on reported before following end f g h e =
    let n = next_begins reported before following 0 end f g h e in
    let begins = n.0 in
    let some = n.1 in
    record {
      before = before ++ f ∷ [];
      following = following;
      split = e ∙ sym (append_assoc before (f ∷ []) (g ∷ following));
      from = omega (arith, begins);
      to = omega (arith, begins, some);
    }
