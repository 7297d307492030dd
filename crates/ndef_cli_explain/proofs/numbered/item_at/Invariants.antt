use Rattle.std.proofs.Common.{◌≡◌, ◌+◌, length}
use Rattle.std.specs.Prelude.{slice_get}
use Rattle.ndef_cli_explain.proofs.numbered.item_at.Given as goal

abbrev pub invariant-loop-item : goal.invariant-loop-item
invariant-loop-item l = record {
  same : slice_get l.fn.items l.place ≡ slice_get l.item-iterator l.left;
  count : length l.item-iterator + l.place ≡ length l.fn.items + l.left;
}
