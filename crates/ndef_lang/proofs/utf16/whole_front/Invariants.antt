use Rattle.std.proofs.Common.{◌≡◌, ℕ, ◌-◌, ◌*◌, ◌≤◌, length, take}
use Rattle.ndef_lang.specs.Language.{Continues, StepsFront}
use Rattle.ndef_lang.specs.Machine.Utf16.{SpelledRest}
use Rattle.ndef_lang.proofs.utf16.whole_front.Given as goal

abbrev pub invariant-loop-at : goal.invariant-loop-at
invariant-loop-at l = record {
  within : l.at ≤ length l.bytes;
  even : (m : ℕ) × (l.at ≡ 2 * m);
  follows : Continues (SpelledRest l.little l.paired) (SpelledRest l.little l.open) (take l.at l.bytes);
  front : StepsFront (SpelledRest l.little l.paired) (SpelledRest l.little l.front.0) l.bytes l.front.1;
}

abbrev pub decreases-loop-at : goal.decreases-loop-at
decreases-loop-at l = length l.bytes - l.at
