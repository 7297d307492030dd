-- Whole UTF-16 characters at once.
use Rattle.std.proofs.Common.{◌≡◌, ℕ, suc, ◌+◌, ◌-◌, ◌*◌, ◌≤◌, ◌↔◌, Bool, true, false, List, [], ◌∷◌, ◌++◌, length, take, get_or, refl, sym, ◌∙◌, ap, subst, arith, append_assoc}
use Rattle.std.proofs.lemmas.List.{take_more}
use Rattle.ndef_lang.specs.Language.{Continues, PassesBetween, StepsFront}
use Rattle.ndef_lang.specs.StepLaws.{follows_more}
use Rattle.std.specs.Prelude.{if◌then◌else◌}
use Rattle.ndef_lang.specs.Machine.Utf16.{CompletesUtf16, SpelledRest}
use Rattle.ndef_lang.specs.declared.utf16.Utf16State.{Utf16State}
use Rattle.ndef_lang.specs.Machine.Utf16Laws.{alive_lengths}
use Rattle.ndef_lang.specs.declared.utf16.Utf16State.TheVariants.{Whole}

-- whole units complete a text after whole units
even_rest : (little paired : Bool) (r : List ℕ) → SpelledRest little paired r → (m : ℕ) × (length r ≡ 2 * m)
even_rest little true r h = let w = (alive_lengths (Whole little true) refl).all r h in (suc w.0, omega (arith, w.1))
even_rest little false r h = let w = (alive_lengths (Whole little false) refl).all r h in (w.0, omega (arith, w.1))

-- what passes after whole units still passes after whole characters
units_between : (little paired : Bool) (lo hi m : ℕ) → 2 * m ≤ lo → PassesBetween (SpelledRest little paired) lo hi → PassesBetween (SpelledRest little false) (lo - 2 * m) (hi - 2 * m)
units_between little paired lo hi m l p =
    let k = even_rest little paired p.rest p.passed in
    let least = p.least in
    let most = p.most in
    let e = k.1 in
    let t = (alive_lengths (Whole little false) refl).each (2 * (k.0 - m)) (k.0 - m, omega arith) in
    record { rest = t.0; passed = t.1.0; least = omega (arith, t.1.1); most = omega (arith, t.1.1) }

-- the octets of a unit
pub unit_taken : (little paired : Bool) (after : Utf16State) (most least first second : ℕ) (other next : Bool) → after ≡ Whole other next → other ≡ little
    → ((r : List ℕ) → CompletesUtf16 after r ↔ SpelledRest little paired (if little then least ∷ most ∷ r else most ∷ least ∷ r))
    → ((r : List ℕ) → (if little then least ∷ most ∷ r else most ∷ least ∷ r) ≡ first ∷ second ∷ r) → Continues (SpelledRest little paired) (SpelledRest little next) (first ∷ second ∷ [])
unit_taken little paired after most least first second other next e o f same r =
    let whole : after ≡ Whole little next = e ∙ ap (λ x. Whole x next) o in
    subst (λ y. SpelledRest little next r ↔ SpelledRest little paired y) (same r)
    (subst (λ s. CompletesUtf16 s r ↔ SpelledRest little paired (if little then least ∷ most ∷ r else most ∷ least ∷ r)) whole (f r))

-- one unit more
pub follows_unit : (little old mid new : Bool) (bytes : List ℕ) (at : ℕ) → 2 ≤ length bytes - at → Continues (SpelledRest little old) (SpelledRest little mid) (take at bytes)
    → Continues (SpelledRest little mid) (SpelledRest little new) (get_or bytes at 0 ∷ get_or bytes (at + 1) 0 ∷ []) → Continues (SpelledRest little old) (SpelledRest little new) (take (at + 2) bytes)
follows_unit little old mid new bytes at l f g =
    let e : take at bytes ++ (get_or bytes at 0 ∷ get_or bytes (at + 1) 0 ∷ []) ≡ take (at + 2) bytes =
    sym (append_assoc (take at bytes) (get_or bytes at 0 ∷ []) (get_or bytes (at + 1) 0 ∷ []))
    ∙ ap (λ x. x ++ (get_or bytes (at + 1) 0 ∷ [])) (sym (take_more bytes at 0 (omega arith)))
    ∙ sym (take_more bytes (at + 1) 0 (omega arith))
    ∙ ap (λ n. take n bytes) (let q : at + 1 + 1 ≡ at + 2 = omega arith in q) in
    subst (Continues (SpelledRest little old) (SpelledRest little new)) e (follows_more (SpelledRest little old) (SpelledRest little mid) (SpelledRest little new) (take at bytes) (get_or bytes at 0 ∷ get_or bytes (at + 1) 0 ∷ []) f g)

-- characters end there
pub front_whole : (little paired : Bool) (bytes : List ℕ) (at m : ℕ) → at ≡ 2 * m → at ≤ length bytes → Continues (SpelledRest little paired) (SpelledRest little false) (take at bytes)
    → StepsFront (SpelledRest little paired) (SpelledRest little false) bytes at
front_whole little paired bytes at m e l f = record {
  within = l;
  stepped = f;
  fits = λ lo hi less p. subst (λ n. PassesBetween (SpelledRest little false) (lo - n) (hi - n)) (sym e) (units_between little paired lo hi m (omega arith) p);
}
