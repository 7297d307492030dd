use Rattle.std.proofs.Common.{◌∙◌, sym, ap, subst, map, inl, inr, Some, None, Ok}
use Rattle.ndef_format.specs.Messages.{run_record}
use Rattle.ndef_types.specs.Contents.{IsFirstOf}
use Rattle.ndef_types.specs.Links.{IsHandoverRecord}
use Rattle.ndef_types.proofs.ViewedLinks.{first_found, found_chunked, found_of}
use Rattle.ndef_types.proofs.link.carriers_view.Goals as goal

pub links_of_viewed-requires : goal.links_of_viewed-requires
links_of_viewed-requires c =
    let runs = c.args.view.now.runs in
    (subst (λ o. IsFirstOf IsHandoverRecord (map run_record runs) (found_of o)) (sym c.viewed_handover.ensures ∙ c.in-Some.is) (first_found runs)).1.has

pub returns-in-Some-clause-links : goal.returns-in-Some-clause-links
returns-in-Some-clause-links c =
    let runs = c.args.view.now.runs in (
      Some (run_record c.in-Some.handover),
      subst (λ o. IsFirstOf IsHandoverRecord (map run_record runs) (found_of o)) (sym c.viewed_handover.ensures ∙ c.in-Some.is) (first_found runs),
      c.links_of_viewed.ensures.links,
    )

pub returns-in-None-clause-links : goal.returns-in-None-clause-links
returns-in-None-clause-links c =
    let runs = c.args.view.now.runs in
    (None, subst (λ o. IsFirstOf IsHandoverRecord (map run_record runs) (found_of o)) (sym c.viewed_handover.ensures ∙ c.in-None.is) (first_found runs), ap Ok c.new.ensures)

pub returns-in-Some-clause-memory : goal.returns-in-Some-clause-memory
returns-in-Some-clause-memory c = λ e.
    let runs = c.args.view.now.runs in
    let found = sym c.viewed_handover.ensures ∙ c.in-Some.is in
    elim (c.links_of_viewed.ensures.memory e) [
      | inl chunked ↦ inl (found_chunked runs c.in-Some.handover found chunked)
      | inr has ↦ inr (run_record c.in-Some.handover, subst (λ o. IsFirstOf IsHandoverRecord (map run_record runs) (found_of o)) found (first_found runs), has)
    ]
