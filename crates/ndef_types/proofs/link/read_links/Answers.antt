use Rattle.std.proofs.Common.{sym, subst, map, ◌∙◌, [], Some, ◌≡◌, ◌≢◌}
use Rattle.std.specs.Bool.{MatchBool}
use Rattle.ndef_format.specs.Messages.{run_record}
use Rattle.ndef_types.specs.Links.{AreLinks, StandsForLinks, alternatives}
use Rattle.ndef_types.proofs.HandoverLemmas.{carriers_stand, links_stand, viewed}
use Rattle.ndef_types.proofs.LinkLemmas.{whole_carriers}
use Rattle.ndef_types.proofs.TextLemmas.{if_ok, on_err}
use Rattle.ndef_types.proofs.link.read_links.Goals as goal

pub links_of-requires : goal.links_of-requires
links_of-requires g c =
    let w = viewed c.requires.0 c.args.profile c.args.payload.now c.after_first-bytes.result.now c.view_nested-handover.result.runs c.requires.1 c.requires.2 c.after_first-bytes.ensures (sym c.is_empty.ensures ∙ c.if-is_empty.false) c.view_nested-handover.ensures in
    whole_carriers c.view_nested-handover.result.runs w.single w.carriers

pub returns-then-not-has_alternative-clause-value : goal.returns-then-not-has_alternative-clause-value
returns-then-not-has_alternative-clause-value g c =
    let outer = g.O.Outer.items c.args.outer.now in
    let items = map run_record c.view_nested-handover.result.runs in
    let w = viewed c.requires.0 c.args.profile c.args.payload.now c.after_first-bytes.result.now c.view_nested-handover.result.runs c.requires.1 c.requires.2 c.after_first-bytes.ensures (sym c.is_empty.ensures ∙ c.if-is_empty.false) c.view_nested-handover.ensures in
    let none : alternatives items ≡ [] = subst (λ b. MatchBool b (alternatives items ≢ []) (alternatives items ≡ [])) c.if-not-has_alternative.true c.has_alternative.ensures in
    let links = subst (λ xs. AreLinks outer xs []) (sym none) tt in
    subst (StandsForLinks c.args.profile outer c.args.payload.now) (sym c.new-then-not-has_alternative.ensures) (links_stand c.args.profile outer c.args.payload.now (Some items) [] w.some w.message links)

pub returns-clause-value : goal.returns-clause-value
returns-clause-value g c =
    let outer = g.O.Outer.items c.args.outer.now in
    let payload = c.args.payload.now in
    let items = map run_record c.view_nested-handover.result.runs in
    let w = viewed c.requires.0 c.args.profile c.args.payload.now c.after_first-bytes.result.now c.view_nested-handover.result.runs c.requires.1 c.requires.2 c.after_first-bytes.ensures (sym c.is_empty.ensures ∙ c.if-is_empty.false) c.view_nested-handover.ensures in
    if_ok (AreLinks outer (alternatives items)) (StandsForLinks c.args.profile outer payload) (λ links a. links_stand c.args.profile outer payload (Some items) links w.some w.message a)
    c.links_of.result (c.links_of.ensures outer c.in_ok-ids.ensures)

pub returns-in_err-ids-clause-memory : goal.returns-in_err-ids-clause-memory
returns-in_err-ids-clause-memory g c =
    let items = map run_record c.view_nested-handover.result.runs in
    let w = viewed c.requires.0 c.args.profile c.args.payload.now c.after_first-bytes.result.now c.view_nested-handover.result.runs c.requires.1 c.requires.2 c.after_first-bytes.ensures (sym c.is_empty.ensures ∙ c.if-is_empty.false) c.view_nested-handover.ensures in
    let some : alternatives items ≢ [] = subst (λ b. MatchBool b (alternatives items ≢ []) (alternatives items ≡ [])) c.if-not-has_alternative.false c.has_alternative.ensures in
    on_err c.from_residual.result (carriers_stand c.args.profile c.args.payload.now (Some items) w.some w.message some)

pub returns-clause-memory : goal.returns-clause-memory
returns-clause-memory g c =
    let items = map run_record c.view_nested-handover.result.runs in
    let w = viewed c.requires.0 c.args.profile c.args.payload.now c.after_first-bytes.result.now c.view_nested-handover.result.runs c.requires.1 c.requires.2 c.after_first-bytes.ensures (sym c.is_empty.ensures ∙ c.if-is_empty.false) c.view_nested-handover.ensures in
    let some : alternatives items ≢ [] = subst (λ b. MatchBool b (alternatives items ≢ []) (alternatives items ≡ [])) c.if-not-has_alternative.false c.has_alternative.ensures in
    on_err c.links_of.result (carriers_stand c.args.profile c.args.payload.now (Some items) w.some w.message some)
