-- The sentences about payloads are true.
use Rattle.std.proofs.Common.{◌≡◌, ◌≢◌, ℕ, suc, zero, ◌-◌, ◌≤◌, ◌⊎◌, inl, inr, List, [], ◌∷◌, ◌++◌, length, drop, refl, sym, ◌∙◌, subst, arith, length-drop, le-ltb}
use Rattle.ndef_format.specs.declared.kind.Kind.{Kind}
use Rattle.ndef_format.specs.declared.profile.Profile.{Profile}
use Rattle.ndef_format.specs.declared.profile.Profile.TheVariants.{Strict}
use Rattle.ndef_lang.specs.declared.leaf.Class.{Class}
use Rattle.ndef_lang.specs.declared.leaf.Class.TheVariants as classes
use Rattle.ndef_lang.specs.declared.leaf.Leaf.{Leaf}
use Rattle.ndef_lang.specs.declared.leaf.Leaf.TheVariants.{Field}
use Rattle.ndef_lang.specs.declared.leaf.Stage.{Stage}
use Rattle.ndef_lang.specs.declared.leaf.Stage.TheVariants as stages
use Rattle.ndef_lang.specs.declared.lengths.Lengths.{Lengths}
use Rattle.ndef_lang.specs.Lengths.{HasLength}
use Rattle.ndef_lang.specs.OctetLaws.{field_parts}
use Rattle.ndef_lang.specs.Machine.Leaf.{CompletesLeaf, CompletesStage, InClass, field_after, leaf_lengths, leaf_of, stage_lengths}
use Rattle.ndef_lang.specs.Machine.LeafLaws.{are_leaf_lengths, are_stage_lengths, payload_completes, stage_leads}
use Rattle.ndef_fields.specs.declared.name.FieldName.{FieldName}
use Rattle.ndef_diagnostics.specs.LengthMismatches.{after_first, field_named, length_mismatch_in, of_data, of_field, of_lengths, of_stage}
use Rattle.ndef_diagnostics.specs.Truths.{LengthsHold, LengthMismatchesAreTrue}
use Rattle.ndef_diagnostics.specs.declared.expected.Expected.TheVariants.{Nothing, WholeCharacter}

-- ---- lengths for which nothing is wanted

lengths_no : (lengths : Lengths) (kind : Kind) (given : ℕ) → of_lengths lengths kind given ≢ Nothing
    → ¬ HasLength lengths given
lengths_no lengths kind given h l = grind arith

data_no : (lengths : Lengths) (reason left : ℕ) → of_data lengths reason left ≢ Nothing → ¬ HasLength lengths left
data_no lengths reason left h l = grind arith

stage_no : (stage : Stage) (left : ℕ) → of_stage stage left ≢ Nothing → ¬ HasLength (stage_lengths stage) left
stage_no stage left h l = grind arith

field_no : (name : FieldName) (leaf : Leaf) (left : ℕ) → of_field name leaf left ≢ Nothing → (r : List ℕ)
    → CompletesLeaf leaf r → length r ≢ left
field_no name (Field n class next) left h r c e =
    let p = field_parts (InClass class) n (CompletesStage next) r c in
    let l = (are_stage_lengths next).all (drop n r) p.rest in
    let within : n ≤ left = omega (arith, p.within, e) in
    let same : length (drop n r) ≡ left - n = omega (arith, length-drop n r, e) in
    stage_no next (left - n) (λ q. h (rw (le-ltb left n within, q) refl)) (subst (HasLength (stage_lengths next)) same l)
field_no name leaf left h r c e = h refl

-- ---- the octets of a payload

-- after the first octet of a stage: in a text, in the data of an error, or in a field
record Follows (stage : Stage) (b left : ℕ) : Type 0 where
  not_utf8 : stage ≢ stages.Utf8
  not_utf16 : stage ≢ stages.Utf16
  either : (after_first stage b left ≡ of_data (leaf_lengths (field_after stage b)) b left)
      ⊎ (after_first stage b left ≡ of_field (field_named stage) (field_after stage b) left)

follows : (stage : Stage) (b left : ℕ) → (after_first stage b left ≡ WholeCharacter) ⊎ Follows stage b left
follows stage b left = grind arith

after_no : (stage : Stage) (b left : ℕ) → after_first stage b left ≢ Nothing → after_first stage b left ≢ WholeCharacter
    → (r : List ℕ) → CompletesStage stage (b ∷ r) → length r ≢ left
after_no stage b left h k r c e = elim (follows stage b left) [
  | inl w ↦ k w
  | inr f ↦
      let leaf = field_after stage b in
      let d = stage_leads stage b r f.not_utf8 f.not_utf16 c in elim f.either [
        | inl w ↦ data_no (leaf_lengths leaf) b left (λ n. h (w ∙ n)) (subst (HasLength (leaf_lengths leaf)) e ((are_leaf_lengths leaf).all r d))
        | inr w ↦ field_no (field_named stage) leaf left (λ n. h (w ∙ n)) r d e
      ]
]

-- in a text, whatever octets come
utf8_whole : (class : Class) (left b : ℕ) (s : List ℕ) → length_mismatch_in (Field 0 class stages.Utf8) left (b ∷ s) ≡ WholeCharacter
utf8_whole class left b [] = refl
utf8_whole class left b (c ∷ s) = utf8_whole classes.Any (left - 1) c s

utf16_whole : (class : Class) (left b : ℕ) (s : List ℕ) → length_mismatch_in (Field 0 class stages.Utf16) left (b ∷ s) ≡ WholeCharacter
utf16_whole class left b [] = refl
utf16_whole class left b (c ∷ s) = utf16_whole classes.Any (left - 1) c s

is_text_or : (stage : Stage) → (stage ≡ stages.Utf8) ⊎ ((stage ≡ stages.Utf16) ⊎ ((stage ≢ stages.Utf8) × (stage ≢ stages.Utf16)))
is_text_or stage = grind arith

-- the rest of a payload that begins with these octets
in_no : (leaf : Leaf) (left : ℕ) (s : List ℕ) → length_mismatch_in leaf left s ≢ Nothing → length_mismatch_in leaf left s ≢ WholeCharacter
    → (rest : List ℕ) → CompletesLeaf leaf (s ++ rest) → length (s ++ rest) ≢ left
in_no (Field (suc n) class next) left (b ∷ s) h k rest c e =
    in_no (Field n class next) (left - 1) s h k rest c.1 (omega (arith, e))
in_no (Field zero class next) left (b ∷ []) h k rest c e = after_no next b (left - 1) h k rest c (omega (arith, e))
in_no (Field zero class next) left (b ∷ d ∷ s) h k rest c e = elim (is_text_or next) [
  | inl q ↦ k (subst (λ n. length_mismatch_in (Field 0 class n) left (b ∷ d ∷ s) ≡ WholeCharacter) (sym q) (utf8_whole class left b (d ∷ s)))
  | inr other ↦ elim other [
    | inl q ↦ k (subst (λ n. length_mismatch_in (Field 0 class n) left (b ∷ d ∷ s) ≡ WholeCharacter) (sym q) (utf16_whole class left b (d ∷ s)))
    | inr q ↦ in_no (field_after next b) (left - 1) (d ∷ s) h k rest (stage_leads next b (d ∷ s ++ rest) q.0 q.1 c) (omega (arith, e))
  ]
]
in_no leaf left s h k rest c e = h refl

-- ---- payloads of a kind, whatever the profile

same_length_mismatch : (kind : Kind) (profile : Profile) (given b : ℕ) (s : List ℕ)
    → length_mismatch_in (leaf_of kind Strict) given (b ∷ s) ≡ length_mismatch_in (leaf_of kind profile) given (b ∷ s)
same_length_mismatch kind profile given b [] = grind arith
same_length_mismatch kind profile given b (c ∷ s) = grind arith

same_lengths : (kind : Kind) (profile : Profile) → leaf_lengths (leaf_of kind profile) ≡ leaf_lengths (leaf_of kind Strict)
same_lengths kind profile = grind arith

pub lengths_hold : LengthsHold
lengths_hold kind profile s p =
    let l = (are_leaf_lengths (leaf_of kind profile)).all s (payload_completes kind profile s p) in
    subst (λ n. HasLength n (length s)) (same_lengths kind profile) l

pub length_mismatches_true : LengthMismatchesAreTrue
length_mismatches_true kind given [] h k = λ profile rest p e.
    let lengths = leaf_lengths (leaf_of kind Strict) in
    lengths_no lengths kind given h (subst (HasLength lengths) e (lengths_hold kind profile rest p))
length_mismatches_true kind given (b ∷ s) h k = λ profile rest p e.
    let same = same_length_mismatch kind profile given b s in
    in_no (leaf_of kind profile) given (b ∷ s) (λ q. h (same ∙ q)) (λ q. k (same ∙ q)) rest
    (payload_completes kind profile (b ∷ (s ++ rest)) p) e
