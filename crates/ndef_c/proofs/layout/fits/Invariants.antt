use Rattle.std.proofs.Common.{◌≡◌, ◌≤◌, ◌+◌, ◌*◌, ◌^◌, length}
use Rattle.std.specs.Prelude.{◌||◌}
use Rattle.ndef_c.specs.Layouts.{AreFields, goes_to_end, layout_of, least_in, most_in, sum_of}
use Rattle.ndef_c.proofs.layout.fits.Given as goal

abbrev pub invariant-loop-left : goal.invariant-loop-left
invariant-loop-left l = record {
  fields : AreFields l.left;
  least : sum_of least_in (layout_of l.fields) ≡ l.least + sum_of least_in (layout_of l.left);
  most : sum_of most_in (layout_of l.fields) ≡ l.most + sum_of most_in (layout_of l.left);
  open_is : goes_to_end (layout_of l.fields) ≡ (l.open || goes_to_end (layout_of l.left));
  least_bound : l.least + length l.left * 2 ^ 32 ≤ 255 * 2 ^ 32;
  most_bound : l.most + length l.left * 2 ^ 32 ≤ 255 * 2 ^ 32;
}

abbrev pub decreases-loop-left : goal.decreases-loop-left
decreases-loop-left l = length l.left
