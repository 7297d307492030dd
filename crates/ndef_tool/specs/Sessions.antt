-- The messages of a source, one after another, and how they end.
use Rattle.std.specs.Prelude.{◌≡◌, ◌≢◌, ◌+◌, ◌<◌, ◌≤◌, ◌⊎◌, ℕ, Bool, true, false, List, [], ◌∷◌, ◌++◌, length, drop, Option, None, Some, Result, Ok, Err, IfSome, ⊤}
use Rattle.std.specs.Io.KnownBytes.{Keeps, IsAtEnd}
use Rattle.std.specs.Option.{option_map}
use Rattle.ndef_format.specs.Accepted.{IsAccepted}
use Rattle.ndef_format.specs.Limits.{greatest_length}
use Rattle.ndef_message.specs.Checkings.{ChecksFrom}
use Rattle.ndef_message.specs.Readings.{NeedsMemory, IsIncomplete, ReadsFrom}
use Rattle.ndef_message.specs.Sources.{Counts}
use Rattle.ndef_message.specs.States.{SinkState}
use Rattle.ndef_message.specs.Views.{Viewed, Views}
use Rattle.ndef_message.specs.declared.message_checking.Checked.{Checked}
use Rattle.ndef_message.specs.declared.message_reading.Read.{Read}
use Rattle.ndef_message.specs.declared.message_reading.ReadError.TheVariants as errors
use Rattle.ndef_cli.specs.Outputs.{GoesOut}
use Rattle.ndef_tool.specs.Blocks.{block_text}
use Rattle.ndef_tool.specs.Output.{AreBlocks, IsBlock, total_bytes}
use Rattle.ndef_cli.specs.Quoting.{Text}
use Rattle.ndef_tool.specs.Rules.{Rules, typed_rules}
use Rattle.ndef_tool.specs.declared.choice.Action.{Action}
use Rattle.ndef_tool.specs.declared.choice.Action.TheVariants.{Check}
use Rattle.ndef_tool.specs.declared.choice.Choice.{Choice}
use Rattle.ndef_cli.specs.declared.outcome.Outcome.{Outcome}
use Rattle.ndef_cli.specs.declared.outcome.Outcome.TheVariants.{Clean, Refused, Reading, Writing, Memory, TooMany}
use Rattle.ndef_tool.specs.declared.session.Printed.{Printed}
use Rattle.ndef_tool.specs.declared.session.Session.{Session}

-- some byte is left, where it is known
abbrev pub IsOn : Option (List ℕ) → Type 0
IsOn None = ⊤
IsOn (Some bytes) = bytes ≢ []

-- each message is read from the bytes to come after the one before
abbrev pub AreInTurn : Rules → (before after : Option (List ℕ)) → List Read → Type 0
AreInTurn rules before after [] = Keeps before after
AreInTurn rules before after (read ∷ reads) =
    (between : Option (List ℕ))
    × ReadsFrom rules.payloads rules.reasons rules.limits before between (Ok read)
    × AreInTurn rules between after reads

-- why no message is handled after `count`: the input is at its end, or doesn't go on with a
-- message, or is left after 10000; or something failed
abbrev pub Stops : Rules → (count : ℕ) → (before after : Option (List ℕ))
    → (source_failed sink_failed : Bool)
    → Outcome → Type 0
Stops rules count before after source_failed sink_failed Clean =
    (source_failed ≡ false) × Keeps before after × IsAtEnd before
Stops rules count before after source_failed sink_failed (Refused refusal) =
    (count < 10000) × (source_failed ≡ false) × IsOn before
    × ReadsFrom rules.payloads rules.reasons rules.limits before after (Err (errors.Refused refusal))
Stops rules count before after source_failed sink_failed Reading = source_failed ≡ true
Stops rules count before after source_failed sink_failed Writing =
    (sink_failed ≡ true) × Keeps before after
Stops rules count before after source_failed sink_failed Memory =
    (count < 10000) × (source_failed ≡ false)
    × ReadsFrom rules.payloads rules.reasons rules.limits before after (Err errors.NoMemory)
Stops rules count before after source_failed sink_failed TooMany =
    (count ≡ 10000) × (source_failed ≡ false) × Keeps before after × IsOn before
Stops rules count before after source_failed sink_failed _ = ⊥

-- memory ran out
abbrev pub is_memory : Outcome → Bool
is_memory Memory = true
is_memory _ = false

-- how the messages may end for an action: `check` allocates no memory
abbrev pub MayEnd : Action → Outcome → Type 0
MayEnd Check outcome = is_memory outcome ≡ false
MayEnd _ _ = ⊤

-- the result for the bytes to come as it was chosen: these messages, at most 10000, and then this
-- ending
pub record IsSession (choice : Choice) (before after : Option (List ℕ)) (source_failed sink_failed : Bool)
    (reads : List Read) (outcome : Outcome) : Type 0 where
  pub few : length reads ≤ 10000
  pub between : Option (List ℕ)
  pub follow : AreInTurn (typed_rules choice.limits) before between reads
  pub stops : Stops (typed_rules choice.limits) (length reads) between after source_failed sink_failed outcome
  pub may : MayEnd choice.action outcome

-- ---- the number of bytes taken

-- the bytes come next, and are a message
abbrev pub IsMessageNext : Rules → (coming : Option (List ℕ)) → List ℕ → Type 0
IsMessageNext rules coming bytes = IsAccepted rules.payloads rules.limits bytes
    × IfSome coming (λ input. (rest : List ℕ) × (input ≡ bytes ++ rest))

-- The bytes that are taken after the last message: those before a refused one; if
-- reading failed, none or an incomplete message; if memory failed, a message whose block was not
-- made, or bytes after which memory is needed; else none.
abbrev pub TakesAfter : Rules → (coming : Option (List ℕ)) → Outcome → ℕ → Type 0
TakesAfter rules coming (Refused refusal) n = (n ≡ refusal.at) × (n ≤ greatest_length rules.limits)
TakesAfter rules coming Reading n = (n ≤ greatest_length rules.limits)
    × ((n ≡ 0) ⊎ ((bytes : List ℕ) × (n ≡ length bytes)
    × IsIncomplete rules.payloads rules.limits coming bytes))
TakesAfter rules coming Memory n = (n ≤ greatest_length rules.limits)
    × (bytes : List ℕ) × (n ≡ length bytes)
    × (IsMessageNext rules coming bytes ⊎ NeedsMemory rules.payloads rules.limits coming bytes)
TakesAfter rules coming _ n = n ≡ 0

-- the number of bytes taken in all, of any source, where the messages have this many
abbrev pub SessionHasTaken : Rules → (at : ℕ) → (coming : Option (List ℕ)) → (before after : ℕ)
    → Outcome → Type 0
SessionHasTaken rules at coming before after outcome =
    (n : ℕ) × TakesAfter rules (option_map (drop at) coming) outcome n × Counts before after (at + n)

-- -- the output

-- the sink failed
abbrev pub is_writing : Outcome → Bool
is_writing Writing = true
is_writing _ = false

-- the messages that were read, and their blocks
pub record Handles (IsRead : List Read → Outcome → Type 0) (choice : Choice)
    (before after : SinkState) (session : Session) : Type 0 where
  pub reads : List Read
  pub is : IsRead reads session.outcome
  pub at : session.at ≡ total_bytes reads
  pub blocks : Text
  pub are_blocks : AreBlocks choice 1 0 reads blocks
  pub written : GoesOut before.written after.written after.failed blocks
  pub mark : after.failed ≡ is_writing session.outcome

-- Into a sink that has failed before nothing goes out: the messages end with the first that has a
-- block, or none has.
pub record Silences (IsRead : List Read → Outcome → Type 0) (choice : Choice)
    (before after : SinkState) (session : Session) : Type 0 where
  pub keeps : Keeps before.written after.written
  pub mark : after.failed ≡ true
  pub ends : (session.outcome ≡ Writing)
      ⊎ ((reads : List Read) × IsRead reads session.outcome × (session.at ≡ total_bytes reads)
      × AreBlocks choice 1 0 reads [])

-- ---- step by step

-- whether one more message is handled after `count`, where these bytes come next
abbrev pub HasNext : {X : Type 0} → (count : ℕ) → List ℕ → Result X Outcome → Type 0
HasNext count bytes (Ok x) = (count < 10000) × (bytes ≢ [])
HasNext count bytes (Err Clean) = bytes ≡ []
HasNext count bytes (Err TooMany) = (count ≡ 10000) × (bytes ≢ [])
HasNext count bytes (Err _) = ⊥

-- the same of a source, of which nothing is taken
abbrev pub LooksAhead : {X : Type 0} → (count : ℕ) → (before after : Option (List ℕ)) → Bool
    → Result X Outcome → Type 0
LooksAhead count before after failed (Ok x) =
    (count < 10000) × (failed ≡ false) × Keeps before after × IsOn before
LooksAhead count before after failed (Err Clean) =
    (failed ≡ false) × Keeps before after × IsAtEnd before
LooksAhead count before after failed (Err TooMany) =
    (count ≡ 10000) × (failed ≡ false) × Keeps before after
    × IsOn before
LooksAhead count before after failed (Err Reading) = failed ≡ true
LooksAhead count before after failed (Err _) = ⊥

-- the next message, after `count`, or why there is none
abbrev pub IsNext : Rules → (count : ℕ) → (before after : Option (List ℕ)) → Bool
    → Result Read Outcome → Type 0
IsNext rules count before after failed (Ok read) = (count < 10000) × (failed ≡ false)
    × ReadsFrom rules.payloads rules.reasons rules.limits before after (Ok read)
IsNext rules count before after failed (Err outcome) =
    Stops rules count before after failed false outcome

-- the same of a message that is only checked, for which memory never runs out
abbrev pub ChecksNext : Rules → (count : ℕ) → (before after : Option (List ℕ)) → Bool
    → Result Checked Outcome → Type 0
ChecksNext rules count before after failed (Ok checked) = (count < 10000) × (failed ≡ false)
    × ChecksFrom rules.payloads rules.reasons rules.limits before after (Ok checked)
ChecksNext rules count before after failed (Err outcome) =
    Stops rules count before after failed false outcome × (is_memory outcome ≡ false)

-- the same of a message in memory, which is viewed there
abbrev pub ViewsNext : Rules → (count : ℕ) → (before after : List ℕ) → Result Viewed Outcome → Type 0
ViewsNext rules count before after (Ok viewed) = (count < 10000)
    × Views rules.payloads rules.reasons rules.limits before (Ok viewed)
    × (after ≡ drop viewed.taken before)
ViewsNext rules count before after (Err outcome) =
    Stops rules count (Some before) (Some after) false false outcome × (is_memory outcome ≡ false)

-- the number of bytes of the next message that are taken, which `X` gives, or the number before the
-- ending
abbrev pub TakesNext : {X : Type 0} → (X → ℕ) → Rules → (coming : Option (List ℕ))
    → (before after : ℕ)
    → Result X Outcome → Type 0
TakesNext taken_of rules coming before after (Ok x) = (taken_of x ≤ greatest_length rules.limits)
    × Counts before after (taken_of x)
TakesNext taken_of rules coming before after (Err outcome) =
    (n : ℕ) × TakesAfter rules coming outcome n × Counts before after n

-- all that is printed of the next message, of which this many bytes come before, or why there is
-- none
abbrev pub PrintsNext : Choice → (count at : ℕ) → (before after : Option (List ℕ)) → Bool
    → Result Printed Outcome
    → Type 0
PrintsNext choice count at before after failed (Ok printed) =
    (read : Read) × IsNext (typed_rules choice.limits) count before after failed (Ok read)
    × IsBlock choice (count + 1) at read (block_text printed.block) × (printed.taken ≡ read.taken)
PrintsNext choice count at before after failed (Err outcome) =
    Stops (typed_rules choice.limits) count before after failed false outcome
    × MayEnd choice.action outcome
