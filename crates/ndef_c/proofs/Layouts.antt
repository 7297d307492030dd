-- Payloads of a layout: their lengths, and what comes after a field.
use Rattle.std.proofs.Common.{◌≡◌, ◌∙◌, ◌+◌, ◌-◌, ◌≤◌, ◌⊎◌, ◌↔◌, ℕ, zero, suc, Bool, true, false, List, [], ◌∷◌, ◌++◌, append_assoc, length, take, drop, get_or, refl, sym, ap, subst, inl, inr, arith, rules}
use Rattle.std.specs.Prelude.{◌^◌, ⊤, IfSome, Option, None, Some, if◌then◌else◌, max, nat_lt}
use Rattle.std.specs.List.{AllByRecursion}
use Rattle.std.proofs.Math.Seq.{drop-append_seam, take-append-add}
use Rattle.std.proofs.lemmas.Bool.{le-ltb}
use Rattle.std.proofs.lemmas.List.{get_or-append-add, length-append, length-drop, length-take-le, take-append-drop}
use Rattle.ndef_value.specs.ListLaws.{octets_back, octets_taken}
use Rattle.ndef_format.specs.Octets.{IsOctet, Octets}
use Rattle.ndef_format.specs.Reasons.{IsLowest, NoReason, rank_of}
use Rattle.ndef_format.specs.Records.{AreOctets}
use Rattle.ndef_format.specs.declared.reason.Reason.{Reason}
use Rattle.ndef_format.specs.declared.reason.Reason.TheVariants.{DoesNotFit}
use Rattle.ndef_format.specs.declared.refusal.Refusal.{Refusal}
use Rattle.ndef_value.specs.SliceLaws.{after_drop, rest_from}
use Rattle.ndef_lang.specs.Language.{Continues}
use Rattle.ndef_lang.specs.LengthLaws.{some_octets}
use Rattle.ndef_lang.specs.Machine.Utf8Laws.{are_utf8_lengths}
use Rattle.ndef_lang.specs.declared.utf8.Utf8Lang.TheVariants.{Whole}
use Rattle.ndef_c.specs.Layouts.{AreFields, CanBegin, GoesOn, HasLaidLength, HasNoLength, IsLaidOut, IsRefusedFirst, IsRefusedIn, IsRefusedText, MayBeField, field_of, TextReason, is_last, layout_of, least_in, most_in, sum_of, text_before}
use Rattle.ndef_c.specs.declared.layout.Field.{Field}
use Rattle.ndef_c.specs.declared.layout.Field.TheVariants as fields
use Rattle.ndef_c.specs.declared.layout.NdefLayoutField.{NdefLayoutField}

-- ---- layouts

-- the bounds of an octet are in order
abbrev pub IsInOrder : Field → Type 0
IsInOrder (fields.Within least most) = least ≤ most
IsInOrder _ = ⊤

-- the bounds of each octet are in order, and none comes after a field that goes to the end
abbrev pub AreInOrder : List Field → Type 0
AreInOrder [] = ⊤
AreInOrder (field ∷ more) = IsInOrder field × (is_last field ≡ true → more ≡ []) × AreInOrder more

field_in_order : (n : NdefLayoutField) → MayBeField n → IsInOrder (field_of n)
field_in_order n (inl e) = subst (λ k. IsInOrder (field_of (record n { form = k }))) (sym e) tt
field_in_order n (inr (inl e)) = subst (λ k. IsInOrder (field_of (record n { form = k }))) (sym e) tt
field_in_order n (inr (inr (inl e))) = subst (λ k. IsInOrder (field_of (record n { form = k }))) (sym e) tt
field_in_order n (inr (inr (inr (inl e)))) = subst (λ k. IsInOrder (field_of (record n { form = k }))) (sym e) tt
field_in_order n (inr (inr (inr (inr h)))) = subst (λ k. IsInOrder (field_of (record n { form = k }))) (sym h.0) h.1

pub in_order : (numbers : List NdefLayoutField) → AreFields numbers → AreInOrder (layout_of numbers)
in_order [] h = tt
in_order (n ∷ more) h = (field_in_order n h.0, λ e. ap layout_of (h.1 e), in_order more h.2)

-- ---- octets one after another

passes_front : (passes : ℕ → Type 0) (set : List ℕ → Type 0) (front r : List ℕ) → AllByRecursion passes front → set r ↔ Octets passes (length front) set (front ++ r)
passes_front passes set [] r all = (λ h. h, λ h. h)
passes_front passes set (b ∷ front) r all =
    let more = passes_front passes set front r all.1 in
    (λ h. (all.0, more.0 h), λ h. more.1 h.1)

passes_split : (passes : ℕ → Type 0) (set : List ℕ → Type 0) (n : ℕ) (s : List ℕ) → Octets passes n set s → (n ≤ length s) × set (drop n s)
passes_split passes set zero s h = (omega arith, h)
passes_split passes set (suc n) [] h = absurd h
passes_split passes set (suc n) (b ∷ s) h = let more = passes_split passes set n s h.1 in (omega (arith, more.0), more.1)

passes_some : (set : List ℕ → Type 0) (n : ℕ) (r : List ℕ) → set r → (s : List ℕ) × Octets IsOctet n set s × (length s ≡ n + length r)
passes_some set zero r h = (r, h, omega arith)
passes_some set (suc n) r h = let more = passes_some set n r h in (0 ∷ more.0, (omega arith, more.1), omega (arith, more.2))

-- ---- lengths

still : {A B C : Type 0} → A ⊎ B → (B → C) → A ⊎ C
still (inl a) f = inl a
still (inr b) f = inr (f b)

least_most : (layout : List Field) → sum_of least_in layout ≤ sum_of most_in layout
least_most [] = omega arith
least_most (fields.Octets n ∷ more) = let l = least_most more in omega (arith, l)
least_most (fields.Within least most ∷ more) = let l = least_most more in omega (arith, l)
least_most (fields.Counted ∷ more) = let l = least_most more in omega (arith, l)
least_most (fields.Utf8 ∷ more) = let l = least_most more in omega (arith, l)
least_most (fields.Rest ∷ more) = let l = least_most more in omega (arith, l)

-- a payload of a layout has a length that it may have
pub laid_length : (layout : List Field) (s : List ℕ) → AreInOrder layout → IsLaidOut layout s → HasLaidLength layout (length s)
laid_length [] s order h = (omega arith, inr (omega (arith, ap length h)))
laid_length (fields.Octets n ∷ more) s order h =
    let split = passes_split IsOctet (IsLaidOut more) n s h in
    let rest = laid_length more (drop n s) order.2 split.1 in
    let long = length-drop n s in (omega (arith, split.0, rest.0, long), still rest.1 (λ most. omega (arith, split.0, most, long)))
laid_length (fields.Within least most ∷ more) [] order h = absurd h
laid_length (fields.Within least most ∷ more) (b ∷ s) order h =
    let rest = laid_length more s order.2 h.1 in (omega (arith, rest.0), still rest.1 (λ long. omega (arith, long)))
laid_length (fields.Counted ∷ more) [] order h = absurd h
laid_length (fields.Counted ∷ more) (n ∷ s) order h =
    let split = passes_split IsOctet (IsLaidOut more) n s h.1 in
    let rest = laid_length more (drop n s) order.2 split.1 in
    let long = length-drop n s in
    let small = h.0 in (omega (arith, split.0, rest.0, long), still rest.1 (λ most. omega (arith, split.0, most, long, small)))
laid_length (fields.Utf8 ∷ more) s order h = (omega (arith, ap (sum_of least_in) (order.1 refl)), inl refl)
laid_length (fields.Rest ∷ more) s order h = (omega (arith, ap (sum_of least_in) (order.1 refl)), inl refl)

-- and each such length is that of some payload
pub laid_some : (layout : List Field) (n : ℕ) → AreInOrder layout → HasLaidLength layout n → (s : List ℕ) × IsLaidOut layout s × (length s ≡ n)
laid_some [] n order (least, inl goes) = absurd (search rules)
laid_some [] n order (least, inr most) = ([], refl, omega (arith, most))
laid_some (fields.Octets k ∷ more) n order fits =
    let inner : HasLaidLength more (n - k) = (omega (arith, fits.0), still fits.1 (λ most. omega (arith, most))) in
    let rest = laid_some more (n - k) order.2 inner in
    let all = passes_some (IsLaidOut more) k rest.0 rest.1 in
    (all.0, all.1, omega (arith, all.2, rest.2, fits.0))
laid_some (fields.Within least most ∷ more) n order fits =
    let inner : HasLaidLength more (n - 1) = (omega (arith, fits.0), still fits.1 (λ long. omega (arith, long))) in
    let rest = laid_some more (n - 1) order.2 inner in
    (least ∷ rest.0, ((omega arith, order.0), rest.1), omega (arith, rest.2, fits.0))
laid_some (fields.Counted ∷ more) n order (least, inl goes) =
    let rest = laid_some more (n - 1) order.2 (omega (arith, least), inl goes) in
    (0 ∷ rest.0, (omega arith, rest.1), omega (arith, rest.2, least))
laid_some (fields.Counted ∷ more) n order (least, inr most) =
    let k = max (sum_of least_in more) (n - 256) in
    let ordered = least_most more in
    let rest = laid_some more k order.2 (omega arith, inr (omega (arith, most, ordered))) in
    let all = passes_some (IsLaidOut more) ((n - 1) - k) rest.0 rest.1 in
    (((n - 1) - k) ∷ all.0, (omega (arith, least), all.1), omega (arith, all.2, rest.2, least))
laid_some (fields.Utf8 ∷ more) n order fits = let text = (are_utf8_lengths Whole).each n (omega arith) in (text.0, text.1.0, text.1.1)
laid_some (fields.Rest ∷ more) n order fits = let octets = some_octets n in (octets.0, octets.1.0, octets.1.1)

-- a length that doesn't fit is that of no payload
pub no_length : (layout : List Field) (n : ℕ) → AreInOrder layout → (HasLaidLength layout n → ⊥) → HasNoLength layout n
no_length layout n order wrong s long laid = wrong (subst (HasLaidLength layout) long (laid_length layout s order laid.0))

pub too_long : (layout : List Field) (n : ℕ) → 2 ^ 32 ≤ n → HasNoLength layout n
too_long layout n many s long laid = let few = laid.1 in absurd (omega (arith, many, long, few))

-- ---- after a field

past_no : (more : List Field) (front s : List ℕ) (n : ℕ) → length front ≡ n
    → (if nat_lt (length (front ++ s)) n then None else text_before more (drop n (front ++ s))) ≡ text_before more s
past_no more front s n long =
    let over : nat_lt (length (front ++ s)) n ≡ false = le-ltb (length (front ++ s)) n (omega (arith, length-append front s, long)) in
    let rest : drop n (front ++ s) ≡ s = ap (λ k. drop k (front ++ s)) (sym long) ∙ drop-append_seam front s in
    ap (λ (c : Bool). if c then None else text_before more (drop n (front ++ s))) over ∙ ap (text_before more) rest

pub after_octets : (n : ℕ) (more : List Field) (s : List ℕ) → AreOctets s → HasLaidLength (fields.Octets n ∷ more) (length s)
    → GoesOn (fields.Octets n ∷ more) more s (drop n s)
after_octets n more s octets fits =
    let front = take n s in
    let long : length front ≡ n = length-take-le n s (omega (arith, fits.0)) in
    let less = length-drop n s in
    record {
      front = front;
      split = sym (take-append-drop n s);
      future = λ r. subst (λ k. IsLaidOut more r ↔ Octets IsOctet k (IsLaidOut more) (front ++ r)) long (passes_front IsOctet (IsLaidOut more) front r (octets_taken n s octets));
      fits = (omega (arith, fits.0, less), still fits.1 (λ most. omega (arith, most, less)));
      texts = λ t. past_no more front t n long;
    }

no_reason : IsLowest NoReason DoesNotFit
no_reason = record { it = refl; first = λ other is. subst (λ r. rank_of DoesNotFit ≤ rank_of r) (sym is) (omega arith) }

pub after_within : (least most : ℕ) (more : List Field) (x : ℕ) (s : List ℕ) → least ≤ x → x ≤ most → HasLaidLength (fields.Within least most ∷ more) (length (x ∷ s))
    → GoesOn (fields.Within least most ∷ more) more (x ∷ s) s
after_within least most more x s above below fits = record {
  front = x ∷ [];
  split = refl;
  future = λ r. (λ h. ((above, below), h), λ h. h.1);
  fits = (omega (arith, fits.0), still fits.1 (λ long. omega (arith, long)));
  texts = λ t. refl;
}

pub after_counted : (more : List Field) (n : ℕ) (s : List ℕ) → AreOctets (n ∷ s) → n ≤ length s → HasLaidLength more (length s - n)
    → GoesOn (fields.Counted ∷ more) more (n ∷ s) (drop n s)
after_counted more n s octets enough fits =
    let front = take n s in
    let long : length front ≡ n = length-take-le n s enough in
    record {
      front = n ∷ front;
      split = ap (λ t. n ∷ t) (sym (take-append-drop n s));
      future = λ r.
          let both = subst (λ k. IsLaidOut more r ↔ Octets IsOctet k (IsLaidOut more) (front ++ r)) long (passes_front IsOctet (IsLaidOut more) front r (octets_taken n s octets.1)) in
          (λ h. (octets.0, both.0 h), λ h. both.1 h.1);
      fits = subst (HasLaidLength more) (sym (length-drop n s)) fits;
      texts = λ t. past_no more front t n long;
    }

pub not_counted : (more : List Field) (n : ℕ) (s : List ℕ) → AreInOrder more → (n ≤ length s → HasLaidLength more (length s - n) → ⊥) → IsRefusedFirst (fields.Counted ∷ more) (n ∷ s)
not_counted more n s order wrong = (n, s, refl, refused, no_reason)
  where
    refused : CanBegin (fields.Counted ∷ more) (n ∷ []) (length s) → ⊥
    refused p =
        let split = passes_split IsOctet (IsLaidOut more) n p.rest p.passed.1 in
        let long : length p.rest ≡ length s = omega (arith, p.least, p.most) in
        let fits = laid_length more (drop n p.rest) order split.1 in
        let less : length (drop n p.rest) ≡ length s - n = length-drop n p.rest ∙ ap (λ k. k - n) long in
        wrong (omega (arith, split.0, long)) (subst (HasLaidLength more) less fits)

-- ---- a field by its first octets

pub octets_go : (field : Field) (n : ℕ) (more : List Field) (s : List ℕ) → field ≡ fields.Octets n → AreOctets s → HasLaidLength (field ∷ more) (length s)
    → GoesOn (field ∷ more) more s (rest_from n s)
octets_go field n more s is octets fits =
    subst (λ f. GoesOn (f ∷ more) more s (rest_from n s)) (sym is)
    (subst (GoesOn (fields.Octets n ∷ more) more s) (sym (after_drop n s)) (after_octets n more s octets (subst (λ f. HasLaidLength (f ∷ more) (length s)) is fits)))

pub within_goes : (field : Field) (least most : ℕ) (more : List Field) (s : List ℕ) → field ≡ fields.Within least most → HasLaidLength (field ∷ more) (length s) → least ≤ get_or s 0 0
    → get_or s 0 0 ≤ most → GoesOn (field ∷ more) more s (rest_from 1 s)
within_goes field least most more s is fits above below =
    subst (λ f. GoesOn (f ∷ more) more s (rest_from 1 s)) (sym is)
    (subst (GoesOn (fields.Within least most ∷ more) more s) (sym (after_drop 1 s)) (go s (subst (λ f. HasLaidLength (f ∷ more) (length s)) is fits) above below))
  where
    go : (s : List ℕ) → HasLaidLength (fields.Within least most ∷ more) (length s) → least ≤ get_or s 0 0 → get_or s 0 0 ≤ most → GoesOn (fields.Within least most ∷ more) more s (drop 1 s)
    go [] fits above below = absurd (omega (arith, fits.0))
    go (x ∷ s) fits above below = after_within least most more x s above below fits

pub counted_goes : (field : Field) (more : List Field) (s : List ℕ) (n : ℕ) → field ≡ fields.Counted → AreOctets s → n ≡ get_or s 0 0 → HasLaidLength (field ∷ more) (length s)
    → n ≤ length (rest_from 1 s) → HasLaidLength more (length (rest_from 1 s) - n) → GoesOn (field ∷ more) more s (rest_from n (rest_from 1 s))
counted_goes field more s n is octets first fits enough inner =
    subst (λ f. GoesOn (f ∷ more) more s (rest_from n (rest_from 1 s))) (sym is)
    (subst (GoesOn (fields.Counted ∷ more) more s) (sym (after_drop n (rest_from 1 s) ∙ ap (drop n) (after_drop 1 s)))
    (go s octets first (subst (λ f. HasLaidLength (f ∷ more) (length s)) is fits) (subst (λ t. n ≤ length t) (after_drop 1 s) enough) (subst (λ t. HasLaidLength more (length t - n)) (after_drop 1 s) inner)))
  where
    go : (s : List ℕ) → AreOctets s → n ≡ get_or s 0 0 → HasLaidLength (fields.Counted ∷ more) (length s) → n ≤ length (drop 1 s) → HasLaidLength more (length (drop 1 s) - n)
        → GoesOn (fields.Counted ∷ more) more s (drop n (drop 1 s))
    go [] octets first fits enough inner = absurd (omega (arith, fits.0))
    go (x ∷ s) octets first fits enough inner =
        subst (λ k. k ≤ length s → HasLaidLength more (length s - k) → GoesOn (fields.Counted ∷ more) more (x ∷ s) (drop k s)) (sym first) (after_counted more x s octets) enough inner

pub counted_refused : (field : Field) (more : List Field) (s : List ℕ) (n : ℕ) → field ≡ fields.Counted → AreInOrder more → n ≡ get_or s 0 0 → HasLaidLength (field ∷ more) (length s)
    → (n ≤ length (rest_from 1 s) → HasLaidLength more (length (rest_from 1 s) - n) → ⊥) → IsRefusedFirst (field ∷ more) s
counted_refused field more s n is order first fits out =
    subst (λ f. IsRefusedFirst (f ∷ more) s) (sym is)
    (go s first (subst (λ f. HasLaidLength (f ∷ more) (length s)) is fits) (subst (λ t. n ≤ length t → HasLaidLength more (length t - n) → ⊥) (after_drop 1 s) out))
  where
    go : (s : List ℕ) → n ≡ get_or s 0 0 → HasLaidLength (fields.Counted ∷ more) (length s) → (n ≤ length (drop 1 s) → HasLaidLength more (length (drop 1 s) - n) → ⊥)
        → IsRefusedFirst (fields.Counted ∷ more) s
    go [] first fits out = absurd (omega (arith, fits.0))
    go (x ∷ s) first fits out = not_counted more x s order (subst (λ k. k ≤ length s → HasLaidLength more (length s - k) → ⊥) first out)

-- ---- one field after another

pub goes_on : (layout : List Field) (s : List ℕ) → HasLaidLength layout (length s) → GoesOn layout layout s s
goes_on layout s fits = record {
  front = [];
  split = refl;
  future = λ r. (λ h. h, λ h. h);
  fits = fits;
  texts = λ t. refl;
}

pub goes_further : (layout left more : List Field) (payload rest after : List ℕ) → GoesOn layout left payload rest → GoesOn left more rest after → GoesOn layout more payload after
goes_further layout left more payload rest after g k = record {
  front = g.front ++ k.front;
  split = g.split ∙ ap (λ t. g.front ++ t) k.split ∙ sym (append_assoc g.front k.front after);
  future = λ r.
      let flat = append_assoc g.front k.front r in (
        λ h. subst (IsLaidOut layout) (sym flat) ((g.future (k.front ++ r)).0 ((k.future r).0 h)),
        λ h. (k.future r).1 ((g.future (k.front ++ r)).1 (subst (IsLaidOut layout) flat h)),
      );
  fits = k.fits;
  texts = λ t. ap (text_before layout) (append_assoc g.front k.front t) ∙ g.texts (k.front ++ t) ∙ k.texts t;
}

-- ---- refusals

-- the first octet is refused
first_refused : (left : List Field) (rest : List ℕ) → AreInOrder left → HasLaidLength left (length rest) → IsRefusedFirst left rest
    → IsRefusedIn left rest (record { at = 0; reason = DoesNotFit })
first_refused left rest order fits first =
    let b = first.0 in
    let after = first.1 in
    let is = first.2 in
    subst (λ s. HasLaidLength left (length s) → IsRefusedIn left s (record { at = 0; reason = DoesNotFit })) (sym is)
    (λ fits.
    let some = laid_some left (length (b ∷ after)) order fits in
    record {
      within = omega arith;
      begins = record { rest = some.0; passed = some.1; least = omega (arith, some.2); most = omega (arith, some.2) };
      ends = λ p. first.3 (record { rest = p.rest; passed = p.passed; least = omega (arith, p.least); most = omega (arith, p.most) });
      reason = first.4;
    })
    fits

-- what is refused in the rest is refused in the payload
raised_in : (layout left : List Field) (front rest : List ℕ) (at : ℕ) (reason : Reason) → Continues (IsLaidOut layout) (IsLaidOut left) front
    → ((s : List ℕ) → text_before layout (front ++ s) ≡ text_before left s)
    → IsRefusedIn left rest (record { at = at; reason = reason }) → IsRefusedIn layout (front ++ rest) (record { at = length front + at; reason = reason })
raised_in layout left front rest at reason future texts r =
    let long = length-append front rest in
    let octet = get_or-append-add front rest at 0 in
    let taken = take-append-add front rest at in
    let further : take (length front + at + 1) (front ++ rest) ≡ front ++ take (at + 1) rest =
    ap (λ k. take k (front ++ rest)) (omega arith) ∙ take-append-add front rest (at + 1) in
    let within = r.within in
    record {
      within = omega (arith, within, long);
      begins = record {
        rest = r.begins.rest;
        passed = subst (IsLaidOut layout) (sym (ap (λ t. t ++ r.begins.rest) taken ∙ append_assoc front (take at rest) r.begins.rest)) ((future (take at rest ++ r.begins.rest)).0 r.begins.passed);
        least = omega (arith, r.begins.least, long);
        most = omega (arith, r.begins.most, long);
      };
      ends = λ p. r.ends (record {
        rest = p.rest;
        passed = (future (take (at + 1) rest ++ p.rest)).1 (subst (IsLaidOut layout) (ap (λ t. t ++ p.rest) further ∙ append_assoc front (take (at + 1) rest) p.rest) p.passed);
        least = omega (arith, p.least, long);
        most = omega (arith, p.most, long);
      });
      reason = subst (λ t. IsLowest (TextReason t (get_or (front ++ rest) (length front + at) 0)) reason) (sym (ap (text_before layout) taken ∙ texts (take at rest)))
          (subst (λ b. IsLowest (TextReason (text_before left (take at rest)) b) reason) (sym octet) r.reason);
    }

pub raised : (layout left : List Field) (payload rest : List ℕ) (g : GoesOn layout left payload rest) (at place : ℕ) (reason : Reason) → place ≡ (length payload - length rest) + at
    → IsRefusedIn left rest (record { at = at; reason = reason }) → IsRefusedIn layout payload (record { at = place; reason = reason })
raised layout left payload rest g at place reason is r =
    let long = length-append g.front rest in
    let whole = ap length g.split in
    let there : length g.front + at ≡ place = omega (arith, long, whole, is) in
    subst (λ k. IsRefusedIn layout payload (record { at = k; reason = reason })) there
    (subst (λ s. IsRefusedIn layout s (record { at = length g.front + at; reason = reason })) (sym g.split) (raised_in layout left g.front rest at reason g.future g.texts r))

pub raised_first : (layout left : List Field) (payload rest : List ℕ) (place : ℕ) → AreInOrder left → GoesOn layout left payload rest → IsRefusedFirst left rest → place ≡ length payload - length rest
    → IsRefusedIn layout payload (record { at = place; reason = DoesNotFit })
raised_first layout left payload rest place order g first is =
    raised layout left payload rest g 0 place DoesNotFit (omega (arith, is)) (first_refused left rest order g.fits first)

-- all fields are passed
pub laid_whole : (layout left : List Field) (payload rest : List ℕ) → GoesOn layout left payload rest → IsLaidOut left rest → IsLaidOut layout payload
laid_whole layout left payload rest g h = subst (IsLaidOut layout) (sym g.split) ((g.future rest).0 h)

-- octets that go to the end
pub rest_laid : (layout left more : List Field) (payload rest : List ℕ) → AreOctets payload → GoesOn layout left payload rest → left ≡ fields.Rest ∷ more → IsLaidOut layout payload
rest_laid layout left more payload rest octets g is =
    laid_whole layout left payload rest g (subst (λ l. IsLaidOut l rest) (sym is) (octets_back g.front rest (subst AreOctets g.split octets)))

pub text_refused : (layout left : List Field) (payload rest : List ℕ) (before : ℕ) (r : Option Refusal) → GoesOn layout left payload rest → left ≡ fields.Utf8 ∷ []
    → before ≡ length payload - length rest → IfSome r (IsRefusedText rest before) → IfSome r (IsRefusedIn layout payload)
text_refused layout left payload rest before None g is place h = tt
text_refused layout left payload rest before (Some refusal) g is place (at, there, refused) =
    raised layout left payload rest g at refusal.at refusal.reason (omega (arith, there, place)) (subst (λ l. IsRefusedIn l rest (record { at = at; reason = refusal.reason })) (sym is) refused)
