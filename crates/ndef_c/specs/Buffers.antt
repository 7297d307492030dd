-- The contents of a buffer after a call that writes to it.
use Rattle.std.specs.Prelude.{◌≡◌, ℕ, ◌<◌, ◌≤◌, min, List, ◌++◌, ◌+◌, length, take, drop}
use Rattle.ndef_format.specs.Reasons.{reason_number, reason_name}
use Rattle.ndef_format.specs.Sentences.{reason_sentence}
use Rattle.ndef_format.specs.declared.reason.Reason.{Reason}
use Rattle.ndef_c.specs.declared.out.Out.{Out}
use Rattle.ndef_c.specs.declared.status.TheConstants.{OK, BUFFER_TOO_SMALL}

-- these bytes are at the front of the buffer, and after them it is as it was
abbrev pub written_over : List ℕ → List ℕ → List ℕ
written_over text buffer = text ++ drop (length text) buffer

-- the bytes are written to the buffer where it is large enough, else it is unchanged; their number is
-- given
pub record Gives (text before after : List ℕ) (count status : ℕ) : Type 0 where
  pub count_is : count ≡ length text
  pub fits : length text ≤ length before → (status ≡ OK) × (after ≡ written_over text before)
  pub too_small : length before < length text → (status ≡ BUFFER_TOO_SMALL) × (after ≡ before)

-- these bytes are at the place, and all others are as they were
pub record IsPut (at : ℕ) (text old new : List ℕ) : Type 0 where
  pub is : new ≡ take at old ++ (text ++ drop (at + length text) old)

-- these octets are written after those before if the buffer is large enough for them; the place
-- is after them, or the greatest number of the machine
pub record Puts (old : Out) (text : List ℕ) (new : Out) : Type 0 where
  pub same_reference : new.buffer.ghost_name ≡ old.buffer.ghost_name
  pub size : length new.buffer.now ≡ length old.buffer.now
  pub buffer : length old.buffer.now ≤ 18446744073709551615
  pub at : old.at ≤ 18446744073709551615
      → new.at ≡ min (old.at + length text) 18446744073709551615
  pub put : old.at + length text ≤ length old.buffer.now
      → IsPut old.at text old.buffer.now new.buffer.now

-- the name of the reason with this number is given
pub record GivesName (number : ℕ) (before after : List ℕ) (count status : ℕ) : Type 0 where
  pub reason : Reason
  pub number_is : reason_number reason ≡ number
  pub gives : Gives (reason_name reason) before after count status

-- the sentence of the reason with this number is given
pub record GivesSentence (number : ℕ) (before after : List ℕ) (count status : ℕ) : Type 0 where
  pub reason : Reason
  pub number_is : reason_number reason ≡ number
  pub gives : Gives (reason_sentence reason) before after count status
