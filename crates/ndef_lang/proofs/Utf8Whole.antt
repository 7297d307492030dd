-- Whole characters at once.
use Rattle.std.proofs.Common.{◌≡◌, ℕ, ◌+◌, ◌-◌, ◌<◌, ◌≤◌, ◌⊎◌, true, inl, inr, sym, ◌∙◌, ap, subst, arith, List, [], ◌∷◌, ◌++◌, length, get_or, take, drop, append_assoc, length-drop}
use Rattle.std.proofs.lemmas.Bool.{and_parts}
use Rattle.std.proofs.lemmas.List.{take_more, length-take-le}
use Rattle.std.proofs.lemmas.Str.{IsUtf8-append, IsUtf8-past_char}
use Rattle.std.specs.Str.{IsUtf8}
use lib.Utf8.{scalar, scalars, encode, encodes}
use Rattle.ndef_lang.specs.declared.utf8.Utf8Lang.{Utf8Lang}
use Rattle.ndef_lang.specs.declared.utf8.Utf8Lang.TheVariants.{Whole}
use Rattle.ndef_lang.specs.Language.{Continues, PassesBetween, StepsAll}
use Rattle.ndef_format.specs.Reasons.{IsLowest}
use Rattle.ndef_lang.specs.StepLaws.{follows_none, follows_more, take_parts, steps_done}
use Rattle.ndef_lang.specs.Machine.Utf8.{CompletesUtf8, Utf8Reached, utf8_reason}
use Rattle.ndef_format.specs.PayloadReasons.{Utf8Reason}
use Rattle.ndef_lang.specs.Machine.Utf8Laws.{are_utf8_lengths}
use Rattle.ndef_lang.proofs.Utf8Lemmas.{utf8_reason_is}

-- what follows whole characters in a text is a text
after_chars : (cs r : List ℕ) → scalars cs ≡ true → IsUtf8 (encodes cs ++ r) → IsUtf8 r
after_chars [] r ok u = u
after_chars (c ∷ cs) r ok u =
    let p = and_parts (scalar c) (scalars cs) ok in
    after_chars cs r p.1 (IsUtf8-past_char (encodes (c ∷ cs) ++ r) (encodes cs ++ r) c u (append_assoc (encode c) (encodes cs) r))

pub follows_text : (s : List ℕ) → IsUtf8 s → Continues IsUtf8 IsUtf8 s
follows_text s t r = (
  λ u. IsUtf8-append s r t u,
  λ u. after_chars t.0 r t.1.0 (subst (λ x. IsUtf8 (x ++ r)) (sym t.1.1) u),
)

-- a text at the front, and another after it
pub text_parts : (bytes : List ℕ) (at n : ℕ) → IsUtf8 (take at bytes) → IsUtf8 (take n (drop at bytes)) → IsUtf8 (take (at + n) bytes)
text_parts bytes at n front following = subst IsUtf8 (sym (take_parts bytes at n)) (IsUtf8-append (take at bytes) (take n (drop at bytes)) front following)

-- the least length may grow less, and the greatest too
text_between : (lo hi n : ℕ) → n ≤ lo → PassesBetween IsUtf8 lo hi → PassesBetween IsUtf8 (lo - n) (hi - n)
text_between lo hi n l p =
    let least = p.least in
    let most = p.most in
    let t = (are_utf8_lengths Whole).each (hi - n) (omega arith) in
    record { rest = t.0; passed = t.1.0; least = omega (arith, t.1.1); most = omega (arith, t.1.1) }

-- what passes still passes after whole characters, or after none
pub front_stepped : (state : Utf8Lang) (bytes : List ℕ) (front lo hi : ℕ) → ((state ≡ Whole) × IsUtf8 (take front bytes)) ⊎ (front ≡ 0) → front ≤ lo → PassesBetween (CompletesUtf8 state) lo hi
    → Continues (CompletesUtf8 state) (CompletesUtf8 state) (take front bytes) × PassesBetween (CompletesUtf8 state) (lo - front) (hi - front)
front_stepped state bytes front lo hi (inl w) l p =
    subst (λ x. Continues (CompletesUtf8 x) (CompletesUtf8 x) (take front bytes) × PassesBetween (CompletesUtf8 x) (lo - front) (hi - front)) (sym w.0)
    (follows_text (take front bytes) w.1, text_between lo hi front l (subst (λ x. PassesBetween (CompletesUtf8 x) lo hi) w.0 p))
front_stepped state bytes front lo hi (inr e) l p =
    subst (λ n. Continues (CompletesUtf8 state) (CompletesUtf8 state) (take n bytes) × PassesBetween (CompletesUtf8 state) (lo - n) (hi - n)) (sym e) (follows_none (CompletesUtf8 state), subst (λ a. PassesBetween (CompletesUtf8 state) a (hi - 0)) (let q : lo ≡ lo - 0 = omega arith in q) (subst (PassesBetween (CompletesUtf8 state) lo) (let q : hi ≡ hi - 0 = omega arith in q) p))

-- the octets of an open character were stepped, and whole characters after them
pub both_stepped : (old mid : Utf8Lang) (bytes : List ℕ) (lo hi begun count front : ℕ) → begun ≤ length bytes → length bytes ≤ lo → StepsAll (CompletesUtf8 old) (CompletesUtf8 mid) (take begun bytes) lo hi count → begun ≤ count
    → ((mid ≡ Whole) × IsUtf8 (take front (drop begun bytes))) ⊎ (front ≡ 0) → front ≤ length (drop begun bytes)
    → Continues (CompletesUtf8 old) (CompletesUtf8 mid) (take (begun + front) bytes) × PassesBetween (CompletesUtf8 mid) (lo - (begun + front)) (hi - (begun + front))
both_stepped old mid bytes lo hi begun count front l m s n w f =
    let whole = length-take-le begun bytes l in
    let within = s.within in
    let d = steps_done s (omega arith) in
    let left = length-drop begun bytes in
    let p : PassesBetween (CompletesUtf8 mid) (lo - begun) (hi - begun) = subst (λ k. PassesBetween (CompletesUtf8 mid) (lo - k) (hi - k)) whole d.1 in
    let t = front_stepped mid (drop begun bytes) front (lo - begun) (hi - begun) w (omega arith) p in
    let e : lo - begun - front ≡ lo - (begun + front) = omega arith in
    let g : hi - begun - front ≡ hi - (begun + front) = omega arith in (
      subst (Continues (CompletesUtf8 old) (CompletesUtf8 mid)) (sym (take_parts bytes begun front)) (follows_more (CompletesUtf8 old) (CompletesUtf8 mid) (CompletesUtf8 mid) (take begun bytes) (take front (drop begun bytes)) d.0 t.0),
      subst (λ a. PassesBetween (CompletesUtf8 mid) a (hi - (begun + front))) e (subst (λ b. PassesBetween (CompletesUtf8 mid) (lo - begun - front) b) g t.1),
    )

-- the reason for the octet after those that were stepped
pub utf8_all_reason : (old new : Utf8Lang) (bytes : List ℕ) (lo hi count : ℕ) → StepsAll (CompletesUtf8 old) (CompletesUtf8 new) bytes lo hi count → count < length bytes → (s : List ℕ) → Utf8Reached old s
    → IsLowest (Utf8Reason (s ++ take count bytes) (get_or bytes count 0)) (utf8_reason new)
utf8_all_reason old new bytes lo hi count t l s h =
    let e : s ++ take (count + 1) bytes ≡ (s ++ take count bytes) ++ get_or bytes count 0 ∷ [] = ap (λ x. s ++ x) (take_more bytes count 0 l) ∙ sym (append_assoc s (take count bytes) (get_or bytes count 0 ∷ [])) in
    utf8_reason_is new (get_or bytes count 0) (s ++ take count bytes)
    (subst (Continues IsUtf8 (CompletesUtf8 new)) e (follows_more IsUtf8 (CompletesUtf8 old) (CompletesUtf8 new) s (take (count + 1) bytes) h t.stepped))
