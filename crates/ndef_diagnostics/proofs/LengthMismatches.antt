-- The expectation in a payload, octet by octet.
use Rattle.std.proofs.Common.{◌≡◌, ℕ, zero, suc, ◌-◌, ◌≤◌, ◌==◌, false, List, [], ◌∷◌, length, get_or, refl, sym, ◌∙◌, ap, arith}
use Rattle.ndef_value.specs.SliceLaws.{cut_one, rest_from}
use Rattle.ndef_lang.specs.declared.leaf.Class.{Class}
use Rattle.ndef_lang.specs.declared.leaf.Leaf.{Leaf}
use Rattle.ndef_lang.specs.declared.leaf.Leaf.TheVariants.{Field}
use Rattle.ndef_lang.specs.declared.leaf.Stage.{Stage}
use Rattle.ndef_lang.specs.Machine.Leaf.{field_after}
use Rattle.ndef_diagnostics.specs.LengthMismatches.{length_mismatch_in}

in_field : (n : ℕ) (class : Class) (next : Stage) (left b : ℕ) (s : List ℕ) → 1 ≤ n
    → length_mismatch_in (Field (n - 1) class next) (left - 1) s ≡ length_mismatch_in (Field n class next) left (b ∷ s)
in_field zero class next left b s l = absurd (omega (arith, l))
in_field (suc n) class next left b s l =
    let same : suc n - 1 ≡ n = omega arith in
    ap (λ m. length_mismatch_in (Field m class next) (left - 1) s) same

-- an octet of a field
pub field_step : (leaf : Leaf) (n : ℕ) (class : Class) (next : Stage) (left : ℕ) (s : List ℕ) → leaf ≡ Field n class next
    → 1 ≤ n → 1 ≤ length s → length_mismatch_in (Field (n - 1) class next) (left - 1) (rest_from 1 s) ≡ length_mismatch_in leaf left s
field_step leaf n class next left s is some l =
    in_field n class next left (get_or s 0 0) (rest_from 1 s) some
    ∙ (ap (λ t. length_mismatch_in (Field n class next) left t) (cut_one s l) ∙ ap (λ x. length_mismatch_in x left s) (sym is))

pub some_more : (n : ℕ) → (n == 0) ≡ false → 1 ≤ n
some_more zero e = cc
some_more (suc n) e = omega arith

in_stage : (class : Class) (next : Stage) (left b : ℕ) (s : List ℕ) → 1 ≤ length s
    → length_mismatch_in (field_after next b) (left - 1) s ≡ length_mismatch_in (Field 0 class next) left (b ∷ s)
in_stage class next left b [] l = absurd (omega (arith, l))
in_stage class next left b (c ∷ s) l = refl

-- the first octet of a stage, before others
pub stage_step : (leaf : Leaf) (class : Class) (next : Stage) (left : ℕ) (s : List ℕ) → leaf ≡ Field 0 class next
    → 1 ≤ length s → 1 ≤ length (rest_from 1 s)
    → length_mismatch_in (field_after next (get_or s 0 0)) (left - 1) (rest_from 1 s) ≡ length_mismatch_in leaf left s
stage_step leaf class next left s is l more =
    in_stage class next left (get_or s 0 0) (rest_from 1 s) more
    ∙ (ap (λ t. length_mismatch_in (Field 0 class next) left t) (cut_one s l) ∙ ap (λ x. length_mismatch_in x left s) (sym is))
