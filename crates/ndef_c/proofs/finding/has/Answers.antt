use Rattle.std.proofs.Common.{◌<◌, length, sym, ◌∙◌, ap, subst, arith}
use Rattle.std.specs.Prelude.{◌↔◌, IsTrue}
use Rattle.std.proofs.lemmas.Slice.Eq.{bytes_eq-Decides}
use Rattle.ndef_format.specs.Messages.{run_record}
use Rattle.ndef_message.specs.WrittenLaws.{some_left}
use Rattle.ndef_c.specs.Finding.{Has}
use Rattle.ndef_c.proofs.finding.has.Goals as goal

pub returns-then-found-tnf : goal.returns-then-found-tnf
returns-then-found-tnf c = λ at r.
    let d = bytes_eq-Decides c.type_in.result.now c.in-Kind.kind.now in
    let t = c.type_in.ensures at r in
    subst (λ w. IsTrue c.eq.result ↔ Has w (run_record r.run)) (sym c.in-Kind.is) (
      λ e. (sym r.tnf ∙ c.if-found-tnf.true, sym t ∙ d.0 (sym c.eq.ensures ∙ e)),
      λ h. c.eq.ensures ∙ d.1 (t ∙ h.1),
    )

pub returns-then-not-is_empty : goal.returns-then-not-is_empty
returns-then-not-is_empty c = λ at r.
    let d = bytes_eq-Decides c.id_in.result.now c.in-Id.id.now in
    let t = c.id_in.ensures at r in
    let some : 0 < length c.in-Id.id.now = some_left c.in-Id.id.now _ c.is_empty.ensures c.if-not-is_empty.true in
    subst (λ w. IsTrue c.eq-then-not-is_empty.result ↔ Has w (run_record r.run)) (sym c.in-Id.is) (
      λ e. (λ none. let n = ap length none in omega (arith, n, some), sym t ∙ d.0 (sym c.eq-then-not-is_empty.ensures ∙ e)),
      λ h. c.eq-then-not-is_empty.ensures ∙ d.1 (t ∙ h.1),
    )
