-- The parts of a message that are seen in its bytes without copying them.
use Rattle.std.specs.Prelude.{◌≡◌, ℕ, ◌≤◌, List, [], ◌∷◌, length, map, take, Option, Some, None, Result, Ok, Err}
use Rattle.ndef_format.specs.Records.{Piece, Run}
use Rattle.ndef_format.specs.Messages.{Item, run_record}
use Rattle.ndef_format.specs.Limits.{LimitValues}
use Rattle.ndef_format.specs.declared.profile.Profile.{Profile}
use Rattle.ndef_format.specs.declared.refusal.Refusal.{Refusal}
use Rattle.ndef_format.specs.Payloads.{Sets}
use Rattle.ndef_format.specs.Reasons.{Conditions}
use Rattle.ndef_format.specs.Accepted.{Accepted, IsAccepted}
use Rattle.ndef_format.specs.Refusals.{Refuses}

-- the view of a message: its number of bytes, its runs, and how reserved values were read
pub record Viewed : Type 0 where
  pub taken : ℕ
  pub runs : List Run
  pub profile : Profile

-- NDEF 1.0, messages: the first `taken` bytes of the input are a message, in these runs
abbrev pub IsViewOf : Sets → LimitValues → (input : List ℕ) → Viewed → Type 0
IsViewOf set limits input v =
    (v.taken ≤ length input)
    × ((accepted : Accepted set limits (map run_record v.runs) (take v.taken input))
    × (accepted.runs ≡ v.runs)) × (v.profile ≡ limits.profile)

-- NDEF 1.0, messages: the view of an input: a message at its front; or it is refused.
abbrev pub Views : Sets → Conditions → LimitValues → (input : List ℕ) → Result Viewed Refusal
    → Type 0
Views set holds limits input (Ok v) = IsViewOf set limits input v
Views set holds limits input (Err refusal) = Refuses set holds limits input refusal

-- NDEF 1.0, chunked payloads: the payloads of some pieces
abbrev pub payloads : List Piece → List (List ℕ)
payloads = map (λ p. p.payload)

-- NDEF 1.0, chunked payloads: the payload of the only piece, where there is one alone
abbrev pub only_payload : List Piece → Option (List ℕ)
only_payload (p ∷ []) = Some p.payload
only_payload _ = None

-- ---- laws

-- the view has these records, in these runs and this number of bytes
pub record IsSeen (v : Viewed) (items : List Item) (runs : List Run) (count : ℕ) : Type 0 where
  pub items_are : items ≡ map run_record v.runs
  pub runs_are : runs ≡ v.runs
  pub count_is : count ≡ v.taken

-- A view of an input shows the only message at its front, in the only runs that spell it.
abbrev pub OneView : Sets → Conditions → Type 0
OneView set holds =
    (limits : LimitValues) (input : List ℕ) (v : Viewed) (items : List Item) (count : ℕ)
    → Views set holds limits input (Ok v) → count ≤ length input
    → (d : Accepted set limits items (take count input))
    → IsSeen v items d.runs count

-- An input that begins with a message is not refused.
abbrev pub NeverRefusedInView : Sets → Conditions → Type 0
NeverRefusedInView set holds =
    (limits : LimitValues) (input : List ℕ) (refusal : Refusal) (count : ℕ)
    → Views set holds limits input (Err refusal) → ¬ IsAccepted set limits (take count input)
