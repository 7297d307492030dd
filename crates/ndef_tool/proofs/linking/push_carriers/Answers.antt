use Rattle.std.proofs.Common.{◌≡◌, ◌+◌, ◌++◌, ◌∙◌, ap₂, sym, subst}
use Rattle.ndef_format.specs.Handovers.{IsAlternative}
use Rattle.ndef_types.specs.Links.{IsIndexOf}
use Rattle.ndef_types.specs.Values.{StandsForAc}
use Rattle.ndef_tool.specs.Linking.{link_text}
use Rattle.ndef_tool.proofs.Counting.{all_linked, first_carrier, one_linked}
use Rattle.ndef_tool.proofs.linking.push_carriers.Goals as goal

pub loop-rest-preserved-in-Continue-1 : goal.loop-rest-preserved-in-Continue-1
loop-rest-preserved-in-Continue-1 c =
    let rest = c.loop-rest.rest.now in
    let outer = c.args.message.now in
    let some = c.in-len1-up.len_at_least in
    let kind = c.is_kind.ensures.0 c.if-is_kind.true in
    let index = c.index_of-index.result in
    let payload = c.new-carrier.ensures in
    let is : IsAlternative c.new-carrier.result = subst IsAlternative (sym payload) (first_carrier rest _ some c.loop-rest.invariant.carriers kind) in
    let value = c.alternatives_are_exact.ensures.exact.each c.new-carrier.result is in
    let v = value.0 in
    let stands : StandsForAc c.new-carrier.result v = value.1.1 in
    let reference : c.reference-reference.result.now ≡ v.reference = c.reference-reference.ensures v stands in
    one_linked outer c.args.members.now rest c.args.lines.now c.loop-rest.lines c.push_link.new.line c.loop-rest.number _ v index some kind
    (subst (λ s. StandsForAc s v) payload stands) (subst (λ id. IsIndexOf outer id index) reference c.index_of-index.ensures.index)
    (c.in_ok-push_link.ensures ∙ ap₂ (λ power name. c.loop-rest.lines ++ link_text (c.loop-rest.number + 1) power name index) (c.power.ensures v stands) reference) c.loop-rest.invariant

pub returns : goal.returns
returns c = all_linked c.args.message.now c.args.members.now c.loop-rest.rest.now c.args.lines.now c.loop-rest.lines c.loop-rest.number c.in_default.len_below c.loop-rest.invariant
