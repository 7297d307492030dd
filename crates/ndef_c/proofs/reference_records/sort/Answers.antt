use Rattle.std.proofs.Common.{rules}
use Rattle.std.proofs.lemmas.Fn.{always_returns_same}
use Rattle.ndef_c.specs.ReferenceOrder.{comes_first}
use Rattle.ndef_c.proofs.ReferenceOrders.{order_ranks}
use Rattle.ndef_c.proofs.reference_records.sort.Goals as goal

pub returns-clause-sorted : goal.returns-clause-sorted
returns-clause-sorted c = c.sort_unstable_by.ensures.sorted (comes_first c.args.payload.now) (order_ranks c.args.payload.now) (always_returns_same _ _ _ (λ a r q h. search rules))
