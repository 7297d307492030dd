-- Hints for bytes that are refused, in sentences and by numbers.
use Rattle.std.specs.Prelude.{◌≡◌, ℕ, ◌⊎◌, List}
use Rattle.ndef_format.specs.Limits.{LimitValues}
use Rattle.ndef_format.specs.NestedReasons.{TypedReason}
use Rattle.ndef_format.specs.Payloads.{IsTypedPayload}
use Rattle.ndef_format.specs.Refusals.{Refuses}
use Rattle.ndef_format.specs.declared.refusal.Refusal.{Refusal}
use Rattle.ndef_diagnostics.specs.Hints.{Applies, BeginsWithMessage, hint_length, hint_place, hint_text}
use Rattle.ndef_diagnostics.specs.declared.dump_text.DumpText.{DumpText}
use Rattle.ndef_diagnostics.specs.declared.dump_text.DumpText.TheVariants as texts
use Rattle.ndef_diagnostics.specs.declared.hint.Hint.{Hint}
use Rattle.ndef_diagnostics.specs.declared.hint.Hint.TheVariants as hints
use Rattle.ndef_diagnostics.specs.declared.tag_memory.Wrapping.{Wrapping}
use Rattle.ndef_diagnostics.specs.declared.tag_memory.Wrapping.TheVariants as wrappings
use Rattle.ndef_c.specs.Buffers.{Gives}
use Rattle.ndef_c.specs.RefusalMessages.{GivesNone}
use Rattle.ndef_c.specs.declared.hints.NdefFound.{NdefFound}
use Rattle.ndef_c.specs.declared.hints.TheConstants.{HINT_ATTRIBUTES, HINT_BASE64, HINT_CODE, HINT_DIGITS, HINT_FILE}
use Rattle.ndef_c.specs.declared.hints.TheConstants.{HINT_FLIPPER, HINT_HEXDUMP, HINT_INTERRUPTED, HINT_MESSAGE}
use Rattle.ndef_c.specs.declared.hints.TheConstants.{HINT_OD, HINT_PROXMARK, HINT_STANDARD, HINT_TERMINATOR, HINT_TLV, HINT_UNFINISHED}
use Rattle.ndef_c.specs.declared.hints.TheConstants.{HINT_WORDS, HINT_XXD}

-- NDEF 1.0, messages: no hint applies where the bytes are refused
pub record HasNoHint (limits : LimitValues) (bytes : List ℕ) : Type 0 where
  pub refusal : Refusal
  pub refused : Refuses IsTypedPayload TypedReason limits bytes refusal
  pub none : (hint : Hint) → ¬ Applies limits bytes refusal hint

-- NDEF 1.0, messages: this hint applies where the bytes are refused
pub record IsHinted (limits : LimitValues) (bytes : List ℕ) (hint : Hint) : Type 0 where
  pub refusal : Refusal
  pub refused : Refuses IsTypedPayload TypedReason limits bytes refusal
  pub applies : Applies limits bytes refusal hint

-- its sentence is given
pub record GivesHinted (limits : LimitValues) (bytes before after : List ℕ) (count status : ℕ) : Type 0 where
  pub hint : Hint
  pub hinted : IsHinted limits bytes hint
  pub gives : Gives (hint_text hint) before after count status

-- the same, or none where the bytes begin with a message, or no hint applies
abbrev pub GivesHint : LimitValues → (bytes before after : List ℕ) (counted count status : ℕ) → Type 0
GivesHint limits bytes before after counted count status =
    ((BeginsWithMessage limits bytes ⊎ HasNoHint limits bytes) × GivesNone before after counted count status)
    ⊎ GivesHinted limits bytes before after count status

-- ---- by numbers

-- the number of a hint on what a tag has for a message
abbrev pub tag_number : Wrapping → ℕ
tag_number wrappings.Block = HINT_TLV
tag_number wrappings.Attributes = HINT_ATTRIBUTES
tag_number wrappings.File = HINT_FILE
tag_number wrappings.Interrupted = HINT_INTERRUPTED
tag_number wrappings.Unfinished = HINT_UNFINISHED

-- the number of a hint on a text that spells bytes
abbrev pub dump_number : DumpText → ℕ
dump_number texts.Digits = HINT_DIGITS
dump_number texts.Xxd = HINT_XXD
dump_number texts.Hexdump = HINT_HEXDUMP
dump_number texts.Od = HINT_OD
dump_number texts.Suppressed = HINT_OD
dump_number texts.Words = HINT_WORDS
dump_number texts.Flipper = HINT_FLIPPER
dump_number texts.Proxmark = HINT_PROXMARK
dump_number texts.Base64 = HINT_BASE64

-- the number of a hint
abbrev pub hint_number : Hint → ℕ
hint_number (hints.InTag found) = tag_number found.wrapping
hint_number (hints.MessageAt place) = HINT_MESSAGE
hint_number hints.AfterBlocks = HINT_TERMINATOR
hint_number (hints.Text text) = dump_number text
hint_number hints.CodeLeftOut = HINT_CODE
hint_number hints.StandardProfile = HINT_STANDARD

-- these are the numbers of a hint that applies where the bytes are refused
pub record FindsHint (limits : LimitValues) (bytes : List ℕ) (found : NdefFound) : Type 0 where
  pub hint : Hint
  pub hinted : IsHinted limits bytes hint
  pub number : found.hint ≡ hint_number hint
  pub at : found.at ≡ hint_place hint
  pub length : found.length ≡ hint_length hint
