use Rattle.std.proofs.Common.{◌≡◌, ◌+◌, length}
use Rattle.ndef_c.proofs.fields.count_of.Given as goal

abbrev pub invariant-loop-field : goal.invariant-loop-field
invariant-loop-field l = l.count + length l._field-iterator ≡ length l.fn.fields
