-- Records that a walk passes.
use Rattle.std.proofs.Common.{ℕ, ◌∷◌, [], List, ◌++◌, drop}
use Rattle.ndef_value.specs.ListLaws.{all_append}
use Rattle.ndef_format.specs.Records.{Run}
use Rattle.ndef_c.specs.Finding.{IsPassed, PassesTo, RecordQuery}
use Rattle.ndef_c.specs.Walks.{BeginsWithRun}
use Rattle.ndef_c.proofs.Walked.{between_on}

-- one more
pub passes_on : (P : RecordQuery) (bytes : List ℕ) (from at next : ℕ) (run : Run) → PassesTo P bytes from at → BeginsWithRun run (drop next bytes) (drop at bytes) → IsPassed P run → PassesTo P bytes from next
passes_on P bytes from at next run p b is = record {
  runs = p.runs ++ run ∷ [];
  between = between_on bytes from at next p.runs run p.between b;
  passed = all_append (IsPassed P) p.runs (run ∷ []) p.passed (is, tt);
}
