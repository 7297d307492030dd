use Rattle.std.proofs.Common.{◌≡◌, List, [], Some}
use Rattle.std.specs.List.{AllByRecursion}
use Rattle.ndef_format.specs.Messages.{SpellsPieces, all_pieces}
use Rattle.ndef_format.specs.Nested.{table_in}
use Rattle.ndef_format.specs.Records.{Run}
use Rattle.ndef_format.specs.declared.table.Table.{Table}
use Rattle.ndef_piece.specs.Steps.{HasPlaces, inner_by, left}
use Rattle.ndef_tool.proofs.Walking.{IsLeft}
use Rattle.ndef_tool.proofs.nested.members_of.Given as goal

abbrev pub invariant-loop-step : goal.invariant-loop-step
invariant-loop-step l = record {
  places : HasPlaces l.walk;
  outer : l.walk.outer.now ≡ [];
  left : (table : Table) (runs : List Run) → table_in l.fn.kind ≡ Some table → AllByRecursion (λ r. r.later ≡ []) runs
      → SpellsPieces (all_pieces runs) (inner_by (Some table) l.payload) → IsLeft table runs l.members.items l.walk;
}

abbrev pub decreases-loop-step : goal.decreases-loop-step
decreases-loop-step l = left l.walk
