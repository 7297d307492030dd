use Rattle.std.proofs.Common.{refl, subst}
use Rattle.ndef_format.specs.Nested.{IsNest}
use Rattle.ndef_c.proofs.ReferenceLists.{nest_carriers}
use Rattle.ndef_c.proofs.handover_items.handover_of.Goals as goal

pub count_references-references-requires-clause-carriers : goal.count_references-references-requires-clause-carriers
count_references-references-requires-clause-carriers c =
    let r = c.requires.nest in
    let n = nest_carriers c.args.table r.0 c.args.payload.now c.requires.handover r.1 in
    (r.0, n.0, n.1)

pub returns-in-Request-clause-tells : goal.returns-in-Request-clause-tells
returns-in-Request-clause-tells c = λ profile h.
    let nest = subst (λ t. IsNest t 65535 profile c.args.payload.now) c.in-Request.is h in
    rw c.in-Request.is (c.request_at-request.ensures profile nest, refl, refl, refl, refl)

pub returns-in-Select-clause-tells : goal.returns-in-Select-clause-tells
returns-in-Select-clause-tells c = λ profile h.
    let nest = subst (λ t. IsNest t 65535 profile c.args.payload.now) c.in-Select.is h in
    rw c.in-Select.is (c.select_at-select.ensures profile nest, refl)
