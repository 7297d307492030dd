-- Properties of record types of a program's own, and of the others beside them.
use Rattle.std.proofs.Common.{◌≡◌, ℕ, Bool, true, false, List, [], ◌∷◌, ◌++◌, refl, sym, subst, ◌∙◌, inl, inr}
use Rattle.std.specs.Prelude.{bytes_eq, ◌==◌, ◌&&◌, nat_lt}
use Rattle.std.proofs.lemmas.Bool.{and_parts}
use Rattle.std.proofs.lemmas.Slice.Eq.{bytes_eq-Decides}
use Rattle.ndef_format.specs.declared.kind.Kind.TheVariants.{Other}
use Rattle.ndef_format.specs.declared.profile.Profile.{Profile}
use Rattle.ndef_format.specs.declared.tnf.Tnf.{Tnf}
use Rattle.ndef_format.specs.Laws.{IsNoName, TypesStay}
use Rattle.ndef_format.specs.Payloads.{KindSets, Sets}
use Rattle.ndef_format.specs.Records.{AreOctets, code}
use Rattle.ndef_lang.specs.OwnTypes.{Chosen, own_sets, OwnStay, is_type, is_name, are_some}
use Rattle.ndef_lang.specs.RecordLanguage.{AreOfOctets, TakesOthers}

module _ (owned : Tnf → List ℕ → Bool) where
  pub is_base : (own : KindSets) (base : Sets) (tnf : Tnf) (name : List ℕ) (records : ℕ) (profile : Profile)
      (s : List ℕ) → owned tnf name ≡ false → base tnf name records profile s
      → own_sets owned own base tnf name records profile s
  is_base own base tnf name records profile s e h =
      subst (λ b. Chosen b (own Other records profile s) (base tnf name records profile s)) (sym e) h

  -- ---- the laws

  pub own_octets : (own : KindSets) (base : Sets)
      → ((records : ℕ) (profile : Profile) (s : List ℕ) → own Other records profile s → AreOctets s) → AreOfOctets base
      → AreOfOctets (own_sets owned own base)
  own_octets own base a b tnf name records profile s = by (owned tnf name)
    where
      by : (o : Bool) → Chosen o (own Other records profile s) (base tnf name records profile s) → AreOctets s
      by true h = a records profile s h
      by false h = b tnf name records profile s h

  pub own_stay : (own : KindSets) (base : Sets) → OwnStay own → TypesStay base → TypesStay (own_sets owned own base)
  own_stay own base a b tnf name records more profile other s few wider = by (owned tnf name)
    where
      by : (o : Bool) → Chosen o (own Other records profile s) (base tnf name records profile s)
          → Chosen o (own Other more other s) (base tnf name more other s)
      by true h = a records more profile other s few wider h
      by false h = b tnf name records more profile other s few wider h

  pub own_others : (own : KindSets) (base : Sets)
      → ((tnf : Tnf) (name : List ℕ) → IsNoName name → owned tnf name ≡ false) → TakesOthers base
      → TakesOthers (own_sets owned own base)
  own_others own base unnamed others tnf name nameless records profile s octets =
      is_base own base tnf name records profile s (unnamed tnf name nameless)
      (others tnf name nameless records profile s octets)

-- ---- types by their names

some_zero : (front rest : List ℕ) → are_some (front ++ 0 ∷ rest) ≡ true → ⊥
some_zero [] rest h = cc
some_zero (b ∷ front) rest h = some_zero front rest (and_parts (nat_lt 0 b) (are_some (front ++ 0 ∷ rest)) h).1

not_named : (name other : List ℕ) → is_name name ≡ true → name ≡ other → IsNoName other → ⊥
not_named [] other h e nameless = cc
not_named (b ∷ bs) other h e (inl none) = let f = e ∙ none in cc
not_named (b ∷ bs) other h e (inr zero_in) =
    some_zero zero_in.0 zero_in.1 (subst (λ x. are_some x ≡ true) (e ∙ zero_in.2) h)

pub named_type : (own : Tnf) (own_name : List ℕ) → is_name own_name ≡ true → (tnf : Tnf) (name : List ℕ) → IsNoName name
    → is_type own own_name tnf name ≡ false
named_type own own_name h tnf name nameless = by (code own == code tnf) (bytes_eq own_name name) refl
  where
    by : (a b : Bool) → bytes_eq own_name name ≡ b → (a && b) ≡ false
    by false b e = refl
    by true false e = refl
    by true true e = absurd (not_named own_name name h ((bytes_eq-Decides own_name name).0 e) nameless)
