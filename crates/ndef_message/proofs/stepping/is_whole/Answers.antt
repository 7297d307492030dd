use Rattle.std.proofs.Common.{inl, inr, ◌≡◌, ap, arith, sym, ◌∙◌}
use Rattle.std.proofs.lemmas.Bool.{eqb-true}
use Rattle.std.proofs.lemmas.Bool.Decides.{eqb_tells}
use Rattle.ndef_message.specs.Steps.{Begun, front_length}
use Rattle.ndef_message.proofs.RecordBegins.{empty_open, empty_whole, some_open, some_whole}
use Rattle.ndef_message.proofs.stepping.is_whole.Goals as goal

pub returns-then-plan-gt0 : goal.returns-then-plan-gt0
returns-then-plan-gt0 c = λ kind id rest left.
    let b : Begun = record { plan = c.args.plan.now; progress = c.args.progress } in (
      λ t. some_whole b kind id rest c.requires left c.if-plan-gt0.true (eqb-true _ _ t),
      λ none. elim (eqb_tells c.args.progress.taken c.args.plan.now.payload_length) [
        | inl e ↦ e.0
        | inr e ↦ absurd (some_open b kind id rest c.requires left e.1 none)
      ],
    )

pub returns-else-plan-gt0 : goal.returns-else-plan-gt0
returns-else-plan-gt0 c = λ kind id rest left.
    let b : Begun = record { plan = c.args.plan.now; progress = c.args.progress } in
    let small = c.if-plan-gt0.false in
    let empty : c.args.plan.now.payload_length ≡ 0 = omega (arith, small) in
    let begin = c.chunk_at.ensures.begin in
    let first : c.chunk_at.result.begin ≡ 0 = omega (arith, begin) in
    let front : c.front_length.result ≡ front_length c.args.plan.now 0 = c.front_length.ensures ∙ ap (front_length c.args.plan.now) first in (
      λ t. empty_whole b kind id rest c.requires left empty (eqb-true _ _ t ∙ front),
      λ none. elim (eqb_tells c.args.progress.head c.front_length.result) [
        | inl e ↦ e.0
        | inr e ↦ absurd (empty_open b kind id rest c.requires left empty (λ h. e.1 (h ∙ sym front)) none)
      ],
    )
