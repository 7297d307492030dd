-- A payload that is in the set isn't refused.
use Rattle.std.proofs.Common.{ℕ, ◌+◌, ◌^◌, ◌<◌, ◌≤◌, List, length, drop, sym, subst, inl, inr, arith, length-drop}
use Rattle.std.proofs.lemmas.List.{take-append-drop}
use Rattle.ndef_format.specs.declared.reason.Reason.{Reason}
use Rattle.ndef_format.specs.declared.refusal.Refusal.{Refusal}
use Rattle.ndef_lang.specs.Place.{CanEnd, IsRefused}
use Rattle.ndef_types.specs.Decoding.{Payloads, Reasons, RefusesPayload}

can_end : (set : Payloads) (s : List ℕ) (n : ℕ) → n ≤ length s → set s → CanEnd set s n
can_end set s n l h = (drop n s, (subst set (sym (take-append-drop n s)) h, omega (arith, length-drop n s)))

not_refused : (set : Payloads) (holds : Reasons) (s : List ℕ) (place : ℕ) (reason : Reason) → set s
    → IsRefused set holds s place reason → ⊥
not_refused set holds s place reason h (inl x) = x.0 (can_end set s 0 (omega arith) h)
not_refused set holds s place reason h (inr x) = x.2 (can_end set s (place + 1) (omega (arith, x.0)) h)

pub set_not_refused : (set : Payloads) (holds : Reasons) (s : List ℕ) (refusal : Refusal) → set s → length s < 2 ^ 32
    → RefusesPayload set holds s refusal → ⊥
set_not_refused set holds s refusal h l (inl x) = omega (arith, x.0)
set_not_refused set holds s refusal h l (inr x) = not_refused set holds s refusal.at refusal.reason h x.1
