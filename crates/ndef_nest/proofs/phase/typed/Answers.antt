use Rattle.std.proofs.Common.{◌≡◌, ◌++◌, ◌∙◌, sym, ap}
use Rattle.ndef_lang.specs.StepLaws.{octets_each}
use Rattle.ndef_format.specs.Nested.{checked, kind_in}
use Rattle.ndef_nest.proofs.Steps.{chain}
use Rattle.ndef_nest.proofs.WholeHeads.{type_completes, type_comes}
use Rattle.ndef_nest.proofs.phase.typed.Goals as goal

pub returns-clause-future : goal.returns-clause-future
returns-clause-future c r =
    let x = c.args.context.now in
    let h = c.args.head.now in
    let t = c.args.name.now in
    let n = c.new.ensures in
    let kind = c.checked-kind.result in
    let is : kind_in x.table h.tnf t ≡ kind = ap (checked x.table) (sym c.of.ensures) ∙ sym c.checked-kind.ensures in
    chain (c.entered.ensures.future r) (type_completes x h c.new.result kind t (octets_each t c.type_inv.name) c.requires.whole is n.last n.id n.payload r)

pub returns-clause-come : goal.returns-clause-come
returns-clause-come c records m come =
    let x = c.args.context.now in
    let h = c.args.head.now in
    let t = c.args.name.now in
    let n = c.new.ensures in
    let kind = c.checked-kind.result in
    let is : kind_in x.table h.tnf t ≡ kind = ap (checked x.table) (sym c.of.ensures) ∙ sym c.checked-kind.ensures in
    c.entered.ensures.come records (m ++ t) (type_comes x h c.new.result kind t (octets_each t c.type_inv.name) c.requires.whole is n.last n.id n.payload records m come)
