-- The properties that fronts determine.
use Rattle.std.proofs.Common.{◌≡◌, ℕ, ◌<◌, ◌≤◌, inl, inr, refl, sym, ◌∙◌, ap, subst, arith, List, [], ◌∷◌, ◌++◌, length, map, take, append-nil, length-append}
use Rattle.std.proofs.Math.Seq.{take-append_seam}
use Rattle.ndef_format.specs.Messages.{run_record}
use Rattle.ndef_format.specs.Limits.{LimitValues}
use Rattle.ndef_format.specs.Payloads.{Sets}
use Rattle.ndef_format.specs.Positions.{IsAt, begun_record}
use Rattle.ndef_piece.specs.Field.{OneField}
use Rattle.ndef_format.specs.Accepted.{IsViable}
use Rattle.ndef_message.specs.Opened.{IsTaken, open_record, bytes_held, OneLed, OneHeld}
use Rattle.ndef_message.proofs.Places.{order}

-- where a byte was refused the bytes taken aren't all
not_more : (set : Sets) (limits : LimitValues) (front taken others : List ℕ) → IsTaken set limits front taken → IsTaken set limits front others
    → length taken < length others → ⊥
not_more set limits front taken others t o h =
    let n = length-append taken t.refused in
    let k = length-append others o.refused in
    let a = ap length t.split in
    let b = ap length o.split in
    let w = t.one in
    by_refused o.refused o.split (omega arith) (omega arith)
  where
    by_refused : (refused : List ℕ) → front ≡ others ++ refused → length refused ≤ 0 → 0 < length t.refused → ⊥
    by_refused [] e l g = t.stops g (subst (IsViable set limits) (sym (e ∙ append-nil others)) o.viable)
    by_refused (b ∷ refused) e l g = omega arith

-- the front determines which bytes were taken
one_taken : (set : Sets) (limits : LimitValues) (front taken others : List ℕ) → IsTaken set limits front taken → IsTaken set limits front others → taken ≡ others
one_taken set limits front taken others t o =
    sym (take-append_seam taken t.refused) ∙ ap (take (length taken)) (sym t.split ∙ o.split) ∙ ap (λ n. take n (others ++ o.refused)) same ∙ take-append_seam others o.refused
  where
    same : length taken ≡ length others
    same =
        elim (order (length taken) (length others)) as (λ v. length taken ≡ length others) [
          | inl h ↦ absurd (not_more set limits front taken others t o h)
          | inr h ↦ elim (order (length others) (length taken)) as (λ v. length taken ≡ length others) [
            | inl g ↦ absurd (not_more set limits front others taken o t g)
            | inr g ↦ omega arith
          ]
        ]

pub one_led : OneField → (set : Sets) → OneLed set
one_led fields set limits front given others a b =
    let same = one_taken set limits front a.taken b.taken a.accepted b.accepted in
    let e = fields limits a.taken a.runs b.runs a.begun b.begun a.field b.field a.at (subst (λ y. IsAt limits y b.runs b.begun b.field) (sym same) b.at) in
    a.means ∙ ap (map run_record) e.0 ∙ sym b.means

pub one_held : OneField → (set : Sets) → OneHeld set
one_held fields set limits front given others count other a b =
    let same = one_taken set limits front (a.ended ++ a.taken) (b.ended ++ b.taken) a.accepted b.accepted in
    let at = subst (λ y. IsAt limits y b.records.runs b.begun b.field) (sym same) b.at in
    let e = fields limits (a.ended ++ a.taken) a.records.runs b.records.runs a.begun b.begun a.field b.field a.at at in (
      a.records.means ∙ ap (map run_record) e.0 ∙ sym b.records.means,
      a.exact refl ∙ ap (λ m. bytes_held (open_record (begun_record m) a.field)) e.1 ∙ ap (λ f. bytes_held (open_record (begun_record b.begun) f)) e.2 ∙ sym (b.exact refl),
    )
