use Rattle.std.proofs.Common.{◌≡◌, sym, ◌∙◌, ap, arith, Some, None}
use Rattle.ndef_format.specs.Nested.{table_in}
use Rattle.ndef_piece.specs.Steps.{inner_by}
use Rattle.ndef_fields.specs.Payloads.{stage_of}
use Rattle.ndef_fields.specs.Walks.{inside_by, stage_by}
use Rattle.ndef_fields.proofs.StepFields.{cut_front}
use Rattle.ndef_fields.proofs.inside.outer_inside.Goals as goal

pub returns-in-Some : goal.returns-in-Some
returns-in-Some c =
    let kind = c.args.kind in
    let s = c.args.payload.now in
    let e : Some c.in-Some.field-0 ≡ table_in kind = sym c.in-Some.is ∙ c.table.ensures in
    record {
      stage = ap (λ x. stage_by x kind) e;
      octets =
          c.split_at.ensures.front
          ∙ cut_front c.in-Some.field-0 s c.inner_of.result.now _ (c.inner_of.ensures.inner ∙ ap (λ x. inner_by x s) (sym e)) (omega arith)
          ∙ ap (λ x. inside_by x s) e;
    }

pub returns-in-None : goal.returns-in-None
returns-in-None c =
    let kind = c.args.kind in
    let e : None ≡ table_in kind = sym c.in-None.is ∙ c.table.ensures in
    record { stage = c.of.ensures ∙ ap stage_of c.outer.ensures ∙ ap (λ x. stage_by x kind) e; octets = ap (λ x. inside_by x c.args.payload.now) e }
