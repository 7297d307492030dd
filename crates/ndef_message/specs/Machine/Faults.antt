-- The state that is seen of the sources and sinks that fail, or never end.
use Rattle.std.specs.Prelude.{◌-◌, ℕ, Bool, false, List, [], ◌∷◌, length, Option, Some, None, ◌||◌, ◌==◌, min}
use Rattle.ndef_message.specs.Machine.Slices.{Sliced}

-- ---- a source that fails

-- the slice that it gives before, and whether it has failed
pub record Failing : Type 0 where
  pub slice : Sliced
  pub failed : Bool

-- ---- a source without an end

-- the rest of its front, or of the pattern that repeats for ever; the number of bytes that are shown, and the
-- number that were taken
pub record Endless : Type 0 where
  pub rest : List ℕ
  pub pattern : List ℕ
  pub shown : ℕ
  pub taken : ℕ

-- these bytes, or where there are none the pattern
abbrev pub or_pattern : (rest pattern : List ℕ) → List ℕ
or_pattern [] pattern = pattern
or_pattern (b ∷ rest) pattern = b ∷ rest

-- what it shows next
abbrev pub shown_next : Endless → List ℕ
shown_next s = or_pattern s.rest s.pattern

-- ---- a sink that stops

-- what was written into a slice of a given length; the most bytes that it takes at once, where it stops, and whether it
-- has failed
pub record Stopping : Type 0 where
  pub written : List ℕ
  pub room : ℕ
  pub per : ℕ
  pub stop : Option ℕ
  pub failed : Bool

-- this is the place
abbrev pub is_at : Option ℕ → ℕ → Bool
is_at None count = false
is_at (Some stop) count = stop == count

-- it has failed, or has all the bytes before the place where it stops
abbrev pub is_stopped : Stopping → Bool
is_stopped s = s.failed || is_at s.stop (length s.written)

-- no more than up to the place where it stops
abbrev pub up_to : Option ℕ → (count most : ℕ) → ℕ
up_to None count most = most
up_to (Some stop) count most = min most (stop - count)

-- the number that it takes of the bytes offered
abbrev pub most_of : Stopping → ℕ → ℕ
most_of s offered = up_to s.stop (length s.written) (min (min offered s.per) (s.room - length s.written))
