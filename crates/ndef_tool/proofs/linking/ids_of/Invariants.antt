use Rattle.std.proofs.Common.{◌≡◌, ◌≤◌, List, ℕ, drop, length}
use Rattle.ndef_types.specs.Ids.{index_at}
use Rattle.ndef_tool.proofs.Ids.{first_index}
use Rattle.ndef_tool.proofs.linking.ids_of.Given as goal

abbrev pub invariant-loop-left : goal.invariant-loop-left
invariant-loop-left l = (l.left ≤ length l.message) × ((id : List ℕ) → index_at l.ids id ≡ first_index l.left id (drop l.left l.message))

abbrev pub decreases-loop-left : goal.decreases-loop-left
decreases-loop-left l = l.left
