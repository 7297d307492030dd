use Rattle.std.proofs.Common.{◌≡◌, ◌+◌, ◌*◌, ◌≤◌, ℕ, List, ◌++◌, None, length, drop}
use Rattle.std.specs.List.{AllByRecursion}
use Rattle.ndef_format.specs.Records.{Run}
use Rattle.ndef_c.specs.Links.{BeginsWithRuns}
use Rattle.ndef_c.specs.Normalizing.{IsWritable, run_records, normalized}
use Rattle.ndef_c.specs.Buffers.{Puts}
use Rattle.ndef_c.specs.Writes.{one_by_one}
use Rattle.ndef_c.proofs.Messages.{Left}
use Rattle.ndef_c.proofs.normalizing.put_normalized.Given as goal

abbrev pub invariant-loop-found : goal.invariant-loop-found
invariant-loop-found l = record {
  at : ℕ;
  within : at ≤ length l.bytes;
  rest_is : l.rest ≡ drop at l.bytes;
  done : List ℕ;
  puts : Puts l.fn.out done l.out;
  bound : length done + 2 * length l.rest ≤ 2 * length l.bytes;
  left : (runs : List Run) → BeginsWithRuns runs l.bytes → (before : List Run) × (k : Left l.bytes runs at before)
      × (done ++ one_by_one l.form l.first None (run_records k.more) ≡ normalized l.form runs)
      × AllByRecursion IsWritable (run_records before);
}

abbrev pub decreases-loop-found : goal.decreases-loop-found
decreases-loop-found l = length l.rest
