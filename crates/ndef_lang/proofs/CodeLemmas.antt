-- The status octet of a text and its language code at once.
use Rattle.std.proofs.Common.{◌≡◌, ℕ, suc, ◌+◌, ◌-◌, ◌%◌, ◌<◌, ◌≤◌, ◌↔◌, false, List, ◌∷◌, ◌++◌, length, get_or, take, sym, subst, arith}
use Rattle.std.proofs.lemmas.Bool.{lt-leb}
use Rattle.std.specs.List.{AllByRecursion}
use Rattle.std.specs.Prelude.{IsUtf8}
use Rattle.ndef_format.specs.Octets.{Octets}
use Rattle.ndef_format.specs.Texts.{IsCodeOctet, IsText, IsTextIn, code_length, is_wide}
use Rattle.ndef_value.specs.SliceLaws.{rest_from, cut_one}
use Rattle.ndef_lang.specs.declared.leaf.Class.TheVariants as classes
use Rattle.ndef_lang.specs.declared.leaf.Stage.TheVariants as stages
use Rattle.ndef_lang.specs.declared.leaf.Leaf.TheVariants.{Field}
use Rattle.ndef_lang.specs.declared.utf8.Utf8Lang.TheVariants.{Whole}
use Rattle.ndef_lang.specs.Language.{Continues, PassesBetween, StepsFront}
use Rattle.ndef_lang.specs.Machine.Leaf.{FieldReason, GoesOn, StageReason, text_stage}
use Rattle.ndef_lang.specs.Machine.Utf8Laws.{are_utf8_lengths}
use Rattle.ndef_lang.proofs.StageLemmas.{code_goes, field_goes_on, field_steps}

narrow : (b : ℕ) → b < 64 → is_wide b ≡ false
narrow b small = lt-leb 128 b (omega arith)

-- the code of length k, and a text
code_follows : (t : List ℕ) (k : ℕ) (r : List ℕ) → k ≤ length t → AllByRecursion IsCodeOctet (take k t) → IsUtf8 r ↔ Octets IsCodeOctet k IsUtf8 (take k t ++ r)
code_follows t k r long code =
    let e : k - k ≡ 0 = omega arith in
    subst (λ n. Octets IsCodeOctet n IsUtf8 r ↔ Octets IsCodeOctet k IsUtf8 (take k t ++ r)) e ((field_steps IsCodeOctet t k k IsUtf8 code long (omega arith)).stepped r)

text_follows : (b : ℕ) (t : List ℕ) (k : ℕ) → b < 64 → k ≡ code_length b → k ≤ length t → AllByRecursion IsCodeOctet (take k t) → Continues IsText IsUtf8 (b ∷ take k t)
text_follows b t k small is long code r =
    let f : IsUtf8 r ↔ Octets IsCodeOctet (code_length b) (IsTextIn (is_wide b)) (take k t ++ r) =
    subst (λ n. IsUtf8 r ↔ Octets IsCodeOctet n (IsTextIn (is_wide b)) (take k t ++ r)) is
    (subst (λ w. IsUtf8 r ↔ Octets IsCodeOctet k (IsTextIn w) (take k t ++ r)) (sym (narrow b small)) (code_follows t k r long code)) in
    (λ h. (omega arith, (λ q. omega arith), f.0 h), λ h. f.1 h.2)

-- a UTF-8 text of any length passes
text_passes : (n lo hi : ℕ) → PassesBetween IsText lo hi → PassesBetween IsUtf8 (lo - n) (hi - n)
text_passes n lo hi p =
    let least = p.least in
    let most = p.most in
    let t = (are_utf8_lengths Whole).each (hi - n) (omega arith) in
    record { rest = t.0; passed = t.1.0; least = omega (arith, t.1.1); most = omega (arith, t.1.1) }

text_steps : (b : ℕ) (t : List ℕ) (k : ℕ) → b < 64 → k ≡ code_length b → k ≤ length t → AllByRecursion IsCodeOctet (take k t) → StepsFront IsText IsUtf8 (b ∷ t) (suc k)
text_steps b t k small is long code = record { within = omega arith; stepped = text_follows b t k small is long code; fits = λ lo hi few p. text_passes (suc k) lo hi p }

text_goes_on : (b : ℕ) (t : List ℕ) (k : ℕ) → b < 64 → k ≡ code_length b → k ≤ length t → GoesOn (StageReason stages.Status) (take (suc k) (b ∷ t)) (Field 0 classes.Code stages.Utf8)
text_goes_on b t k small is long u c reason =
    let v = take k t ++ u in
    let e : k - k ≡ 0 = omega arith in
    let f : StageReason stages.Status (b ∷ v) c reason ↔ FieldReason classes.Code k stages.Utf8 v c reason =
    subst (λ n. StageReason stages.Status (b ∷ v) c reason ↔ FieldReason classes.Code n stages.Utf8 v c reason) (sym is)
    (subst (λ w. StageReason stages.Status (b ∷ v) c reason ↔ FieldReason classes.Code (code_length b) (text_stage w) v c reason) (narrow b small) (code_goes (code_length b) (is_wide b) v c reason)) in
    let g : FieldReason classes.Code k stages.Utf8 v c reason ↔ FieldReason classes.Code 0 stages.Utf8 u c reason =
    subst (λ n. FieldReason classes.Code k stages.Utf8 v c reason ↔ FieldReason classes.Code n stages.Utf8 u c reason) e (field_goes_on classes.Code t k k stages.Utf8 long (omega arith) u c reason) in
    (λ x. g.0 (f.0 x), λ x. f.1 (g.1 x))

-- ---- as a slice's pattern cuts them

one_more : (k : ℕ) → suc k ≡ k + 1
one_more k = omega arith

pub code_steps : (s : List ℕ) (k : ℕ) → 1 ≤ length s → get_or s 0 0 < 64 → k ≡ get_or s 0 0 % 64 → k ≤ length (rest_from 1 s)
    → AllByRecursion IsCodeOctet (take k (rest_from 1 s)) → StepsFront IsText IsUtf8 s (k + 1)
code_steps s k some small is long code =
    subst (λ n. StepsFront IsText IsUtf8 s n) (one_more k) (subst (λ s. StepsFront IsText IsUtf8 s (suc k)) (cut_one s some) (text_steps (get_or s 0 0) (rest_from 1 s) k small is long code))

pub code_goes_on : (s : List ℕ) (k : ℕ) → 1 ≤ length s → get_or s 0 0 < 64 → k ≡ get_or s 0 0 % 64 → k ≤ length (rest_from 1 s)
    → GoesOn (StageReason stages.Status) (take (k + 1) s) (Field 0 classes.Code stages.Utf8)
code_goes_on s k some small is long =
    subst (λ n. GoesOn (StageReason stages.Status) (take n s) (Field 0 classes.Code stages.Utf8)) (one_more k)
    (subst (λ s. GoesOn (StageReason stages.Status) (take (suc k) s) (Field 0 classes.Code stages.Utf8)) (cut_one s some) (text_goes_on (get_or s 0 0) (rest_from 1 s) k small is long))
