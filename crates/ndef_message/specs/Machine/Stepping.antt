-- The results of the functions that write a record in steps.
use Rattle.std.specs.Prelude.{nat_lt, ◌&&◌, ◌==◌, if◌then◌else◌, ◌≡◌, ℕ, ◌+◌, ◌≤◌, true, List, ◌++◌, length, take, drop, ◌⊎◌}
use Rattle.ndef_message.specs.Steps.{chunk_begin, front_length, is_over}
use Rattle.ndef_message.specs.declared.plan.Progress.{Progress}
use Rattle.ndef_message.specs.declared.plan.RecordPlan.{RecordPlan}

-- these octets were put at the place, as many as the count, and all others are as they were
pub record PutsAt (at : ℕ) (text : List ℕ) (old new : List ℕ) (count : ℕ) : Type 0 where
  pub count_is : count ≡ length text
  pub within : at + count ≤ length old
  pub is : new ≡ take at old ++ (text ++ drop (at + count) old)

-- the payload is written, or the next octet is one of it
abbrev pub IsWaiting : RecordPlan → Progress → Type 0
IsWaiting p at = (is_over p at ≡ true) ⊎ (at.head ≡ front_length p (chunk_begin p at.taken))

-- how much is written after this many octets of a chunk's front and of its payload, which ends there
abbrev pub advanced : (end : ℕ) → Progress → (of_front of_part : ℕ) → Progress
advanced end at of_front of_part = record {
  taken = at.taken + of_part;
  head = if nat_lt 0 of_part && at.taken + of_part == end then 0 else at.head + of_front;
}
