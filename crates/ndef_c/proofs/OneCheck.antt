-- Only one answer of a check is right.
use Rattle.std.proofs.Common.{◌≡◌, ℕ, inl, inr, refl, sym, ◌∙◌, ap, List, length}
use Rattle.ndef_format.specs.Limits.{LimitValues}
use Rattle.ndef_format.specs.Reasons.{reason_number, Conditions}
use Rattle.ndef_format.specs.Payloads.{Sets}
use Rattle.ndef_format.specs.Laws.{OneRefusal}
use Rattle.ndef_message.specs.Views.{NeverRefusedInView, OneView}
use Rattle.ndef_c.specs.Checks.{ChecksTo, RefusesAt, TakesMessage}
use Rattle.ndef_c.specs.Feeding.{FeedsAreChecks, checked_status}
use Rattle.ndef_c.specs.declared.checking.NdefChecked.{NdefChecked}

-- two answers with equal parts are equal
same_reported : (out other : NdefChecked) → other.place ≡ out.place → other.records ≡ out.records → other.reason ≡ out.reason → other ≡ out
same_reported out other e f g = parts other.place out.place other.records out.records other.reason out.reason e f g
  where
    parts : (p p' r r' n n' : ℕ) → p ≡ p' → r ≡ r' → n ≡ n'
        → ◌≡◌ {A = NdefChecked} (record { place = p; records = r; reason = n }) (record { place = p'; records = r'; reason = n' })
    parts p p' r r' n n' e f g = rw (e, f, g) refl

never_both : (set : Sets) (holds : Conditions) (limits : LimitValues) (bytes : List ℕ) (out other : NdefChecked) → NeverRefusedInView set holds
    → TakesMessage set holds limits bytes out → RefusesAt set holds limits bytes other → ⊥
never_both set holds limits bytes out other never a b = never limits bytes b.refusal a.viewed.taken b.refused (_, a.views.1.0)

module _ (set : Sets) (holds : Conditions) (limits : LimitValues) (bytes : List ℕ) (out other : NdefChecked) where
  one_message : OneView set holds → TakesMessage set holds limits bytes out → TakesMessage set holds limits bytes other → other ≡ out
  one_message one a b =
      let s = one limits bytes a.viewed _ b.viewed.taken a.views b.views.0 b.views.1.0 in
      let runs = sym b.views.1.1 ∙ s.runs_are in
      same_reported out other (b.place ∙ s.count_is ∙ sym a.place) (b.records ∙ ap length runs ∙ sym a.records) (b.reason ∙ sym a.reason)

  one_refusal : OneRefusal set holds → RefusesAt set holds limits bytes out → RefusesAt set holds limits bytes other → other ≡ out
  one_refusal one a b =
      let s = one limits bytes b.refusal a.refusal b.refused a.refused in
      same_reported out other (b.place ∙ ap (λ r. r.at) s ∙ sym a.place) (b.records ∙ sym a.records) (b.reason ∙ ap (λ r. reason_number r.reason) s ∙ sym a.reason)

  one_check : OneView set holds → NeverRefusedInView set holds → OneRefusal set holds → (s t : ℕ)
      → ChecksTo set holds limits bytes s out → ChecksTo set holds limits bytes t other → (t ≡ s) × (other ≡ out)
  one_check view never refusal s t (inl a) (inl b) = (b.0 ∙ sym a.0, one_message view a.1 b.1)
  one_check view never refusal s t (inl a) (inr b) = absurd (never_both set holds limits bytes out other never a.1 b.1)
  one_check view never refusal s t (inr a) (inl b) = absurd (never_both set holds limits bytes other out never b.1 a.1)
  one_check view never refusal s t (inr a) (inr b) = (b.0 ∙ sym a.0, one_refusal refusal a.1 b.1)

pub feeds_checked : (set : Sets) (holds : Conditions) → OneView set holds → NeverRefusedInView set holds → OneRefusal set holds → FeedsAreChecks set holds
feeds_checked set holds view never refusal limits bytes fed checked out other f c = one_check set holds limits bytes out other view never refusal (checked_status fed) checked f.checks c
