-- The bytes that a checker was fed, and those that a decoder has read, by the states of their machines.
use Rattle.std.specs.Prelude.{◌≡◌, ℕ, ◌≤◌, ◌⊎◌, List, length, take}
use Rattle.ndef_format.specs.Limits.{LimitValues}
use Rattle.ndef_format.specs.Payloads.{Sets}
use Rattle.ndef_format.specs.Accepted.{IsAccepted, IsViable}
use Rattle.ndef_lang.specs.declared.record_language.RecordLanguage.{Ghosts}
use Rattle.ndef_message.specs.Machine.Fronts.{Fronts, IsReachable}
use Rattle.ndef_message.specs.Machine.Checkers.{CheckerReached, checker_limits}
use Rattle.ndef_message.specs.Machine.Decoders.{DecoderReached, decoder_limits, has_failed}
use Rattle.ndef_message.specs.Machine.Points.{Point}
use Rattle.ndef_message.specs.Decoding.{SoFar}
use Rattle.ndef_message.specs.declared.checker.Checker.{Checker}
use Rattle.ndef_message.specs.declared.decoder.Decoder.{Decoder}

-- Some of the bytes were taken: all of them, or the first that are a message, or the first that can't be completed
-- to one.
pub record HaveCome {Point : Type 0} (set : Sets) (limits : LimitValues) (reached : Fronts Point)
    (bytes : List ℕ) : Type 0 where
  pub count : ℕ
  pub within : count ≤ length bytes
  pub led : IsReachable reached (take count bytes)
  pub settled : (count ≡ length bytes) ⊎ IsAccepted set limits (take count bytes)
      ⊎ (¬ IsViable set limits (take count bytes))

-- a checker with these limits was fed these bytes, those with them that it did not look at
abbrev pub WasFed : {L : Type 0} {language : Ghosts L} → Checker L language → LimitValues → List ℕ → Type 0
WasFed {language = language} c limits bytes = (checker_limits c ≡ limits)
    × HaveCome language.payloads limits (CheckerReached c) bytes

-- a decoder with these limits has read so far
abbrev pub HasRead : {L : Type 0} {language : Ghosts L} → Decoder L language → LimitValues → SoFar → Type 0
HasRead d limits s = (decoder_limits d ≡ limits) × (has_failed d ≡ s.failed)
    × ((point : Point) × DecoderReached d s.bytes s.records point)

-- for anything that a checker was fed, with its limits: this holds of it
abbrev pub ForEachFed : {L : Type 0} {language : Ghosts L} → Checker L language → (LimitValues → List ℕ → Type 0)
    → Type 0
ForEachFed {language = language} c claim =
    (limits : LimitValues) (bytes : List ℕ) → WasFed c limits bytes → claim limits bytes

-- for anything that a decoder has read, with its limits: this holds of it
abbrev pub ForEachRead : {L : Type 0} {language : Ghosts L} → Decoder L language → (LimitValues → SoFar → Type 0)
    → Type 0
ForEachRead d claim = (limits : LimitValues) (so_far : SoFar) → HasRead d limits so_far → claim limits so_far
