use Rattle.std.proofs.Common.{◌≡◌, sym, ap, subst, map, [], ◌∷◌, ◌++◌, ◌∙◌, append-nil, append_assoc}
use Rattle.std.specs.List.{AllByRecursion}
use Rattle.std.specs.Prelude.{option_map}
use Rattle.ndef_format.specs.Kinds.{kind_of}
use Rattle.ndef_format.specs.Messages.{run_record}
use Rattle.ndef_format.specs.declared.kind.Kind.TheVariants as kinds
use Rattle.ndef_types.specs.Links.{AreLinks, HasWholeCarrier, IsIndexOf, alternatives}
use Rattle.ndef_types.specs.Values.{StandsForAc}
use Rattle.ndef_types.specs.declared.link.Link.{Link}
use Rattle.ndef_types.proofs.LinkLemmas.{link_here, only_is_whole}
use Rattle.ndef_types.proofs.link.links_of.Goals as goal

pub loop-item-preserved-in-Continue-branch-2 : goal.loop-item-preserved-in-Continue-branch-2
loop-item-preserved-in-Continue-branch-2 c =
    let l = c.loop-item in
    let steps = c.in-Some.ensures.steps in
    let i = run_record c.in-Some.item in
    let rest = map run_record c.next.new.self in
    let all = alternatives (map run_record c.args.handover.now.runs) in
    let kind : kind_of i.tnf i.kind ≡ kinds.Alternative = sym (c.of.ensures ∙ (λ j. kind_of (c.tnf.ensures.value j) (c.kind.ensures j))) ∙ c.is_kind.ensures.0 c.if-is_kind.true in
    let payload = only_is_whole c.in-Some.item c.in-Some-whole.payload.now (sym (ap (option_map (λ s. s.now)) c.in-Some-whole.is) ∙ c.whole.ensures) in
    let ac = c.in_ok-ac.ac in
    let parts : StandsForAc c.new-parts.result ac = c.in_ok-ac.ensures in
    let stands : StandsForAc i.payload ac = subst (λ s. StandsForAc s ac) (c.new-parts.ensures ∙ payload) parts in
    let link : Link = record { ac = ac; index = c.index_of-index.result } in
    record {
      whole = (subst (AllByRecursion HasWholeCarrier) steps l.invariant.whole).1;
      linked = λ outer ids more h.
          let index = subst (λ id. IsIndexOf outer id c.index_of-index.result) (c.reference.ensures ac parts) (c.index_of-index.ensures outer ids) in
          let here = link_here outer rest i link more kind stands index h in
          let links : l.links ++ link ∷ more ≡ c.push.new.self ++ more = sym (append_assoc l.links (link ∷ []) more) ∙ ap (λ links. links ++ more) (sym c.in_ok-push.ensures) in
          subst (AreLinks outer all) links (l.invariant.linked outer ids (link ∷ more) (subst (λ runs. AreLinks outer (alternatives (map run_record runs)) (link ∷ more)) (sym steps) here));
    }

pub returns : goal.returns
returns c = λ outer ids.
    let none = subst (λ runs. AreLinks outer (alternatives (map run_record runs)) []) (sym c.in-None.ensures.steps.0) tt in
    subst (AreLinks outer (alternatives (map run_record c.args.handover.now.runs))) (append-nil c.loop-item.links) (c.loop-item.invariant.linked outer ids [] none)
