use Rattle.std.proofs.Common.{◌≡◌, ◌+◌, ◌-◌, ◌<◌, drop, length, refl, sym, subst, arith, ap}
use Rattle.std.specs.Prelude.{slice_get, Some}
use Rattle.std.proofs.lemmas.Option.{slice_get_read}
use Rattle.ndef_types.specs.Ids.{index_at}
use Rattle.ndef_tool.proofs.Ids.{all_found, first_index, one_added}
use Rattle.ndef_tool.proofs.linking.ids_of.Goals as goal

pub loop-left-preserved : goal.loop-left-preserved
loop-left-preserved c =
    let items = c.args.message.now in
    let before = c.loop-left.invariant in
    let n = c.loop-left.left - 1 in
    let i = c.index-records-left.result in
    let next : c.loop-left.left ≡ n + 1 = omega (arith, c.loop-left-test.true) in
    let within : n < length c.records-records.result.now = omega (arith, c.loop-left-test.true, before.0, ap length c.records-records.ensures.value) in
    let at : slice_get items n ≡ Some i =
    subst (λ xs. slice_get xs n ≡ Some i) c.records-records.ensures.value (slice_get_read c.records-records.result.now _ n i refl within c.index-records-left.is) in (
      omega (arith, before.0),
      λ id. one_added items n i c.id.result.now id c.loop-left.ids c.insert.new.self at (sym c.id.ensures.value) c.in_ok-insert.ensures.updates
          (subst (λ k. index_at c.loop-left.ids id ≡ first_index k id (drop k items)) next (before.1 id)),
    )

pub returns : goal.returns
returns c = λ id some.
    let items = c.args.message.now in
    let none : c.loop-left.left ≡ 0 = omega (arith, c.loop-left-test.false) in
    all_found items id (index_at c.loop-left.ids id) (subst (λ k. index_at c.loop-left.ids id ≡ first_index k id (drop k items)) none (c.loop-left.invariant.1 id)) some
