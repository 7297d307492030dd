-- Statements about the bytes that a machine took.
use Rattle.std.specs.Prelude.{◌<◌, ◌≤◌, ◌+◌, ℕ, List, ◌++◌, length, take}
use Rattle.ndef_format.specs.Messages.{Item}
use Rattle.ndef_format.specs.Limits.{LimitValues}
use Rattle.ndef_format.specs.Payloads.{Sets}
use Rattle.ndef_format.specs.Reasons.{Conditions}
use Rattle.ndef_format.specs.Accepted.{IsAccepted, IsViable}
use Rattle.ndef_format.specs.Refusals.{Refuses}
use Rattle.ndef_message.specs.declared.fed.Fed.{Fed}
use Rattle.ndef_message.specs.declared.fed.Fed.TheVariants as fed

-- what is reached by bytes, with the records that they end and the point of a machine
abbrev pub Fronts : Type 0 → Type 1
Fronts Point = List ℕ → List Item → Point → Type 0

-- for any bytes that the machine took, the records that they end and the point: this holds of them
abbrev pub ForEachInput : {Point : Type 0} → Fronts Point → Fronts Point → Type 0
ForEachInput {Point} reached claim = (front : List ℕ) (given : List Item) (point : Point) → reached front given point
    → claim front given point

-- the machine took some bytes
abbrev pub SomeLed : {Point : Type 0} → Fronts Point → Type 0
SomeLed {Point} reached = (front : List ℕ) × (given : List Item) × (point : Point) × reached front given point

-- the machine took the bytes
abbrev pub IsReachable : {Point : Type 0} → Fronts Point → List ℕ → Type 0
IsReachable {Point} reached bytes = (given : List Item) × (point : Point) × reached bytes given point

-- The answer to these bytes after that front: the first `taken` of them complete a message; or more bytes can
-- still complete one, and these don't; or front and bytes are refused. The new front has the bytes that were taken,
-- including a refused one.
abbrev pub Feeds : {Point : Type 0} → Sets → Conditions → LimitValues → Fronts Point → (front bytes : List ℕ) → Fed
    → Type 0
Feeds set holds limits new front bytes fed.More =
    IsViable set limits (front ++ bytes) × (¬ IsAccepted set limits (front ++ bytes)) × IsReachable new (front ++ bytes)
Feeds set holds limits new front bytes (fed.Done taken) =
    (taken ≤ length bytes) × IsAccepted set limits (front ++ take taken bytes)
    × IsReachable new (front ++ take taken bytes)
Feeds set holds limits new front bytes (fed.Refused refusal) =
    (refusal.at < length (front ++ bytes)) × Refuses set holds limits (front ++ bytes) refusal
    × IsReachable new (take (refusal.at + 1) (front ++ bytes))
