-- Hints for bytes that are refused.
use Rattle.std.specs.Prelude.{◌≡◌, ℕ, ◌<◌, ◌≤◌, ◌==◌, ◌||◌, ◌++◌, ◌⊎◌, Bool, true, List, Some, None, codes, decimal, drop, if◌then◌else◌, slice_index, take}
use Rattle.ndef_format.specs.Accepted.{IsAccepted}
use Rattle.ndef_format.specs.Limits.{LimitValues}
use Rattle.ndef_format.specs.Payloads.{IsTypedPayload}
use Rattle.ndef_format.specs.declared.profile.Profile.TheVariants.{Standard}
use Rattle.ndef_format.specs.declared.reason.Reason.TheVariants as reasons
use Rattle.ndef_format.specs.declared.refusal.Refusal.{Refusal}
use Rattle.ndef_diagnostics.specs.DumpTexts.{text_of}
use Rattle.ndef_diagnostics.specs.TagMemory.{Finds}
use Rattle.ndef_diagnostics.specs.declared.dump_text.DumpText.{DumpText}
use Rattle.ndef_diagnostics.specs.declared.dump_text.DumpText.TheVariants as texts
use Rattle.ndef_diagnostics.specs.declared.tag_memory.Found.{Found}
use Rattle.ndef_diagnostics.specs.declared.tag_memory.Wrapping.{Wrapping}
use Rattle.ndef_diagnostics.specs.declared.tag_memory.Wrapping.TheVariants as wrappings
use Rattle.ndef_diagnostics.specs.declared.hint.Hint.{Hint}
use Rattle.ndef_diagnostics.specs.declared.hint.Hint.TheVariants as hints

-- NDEF 1.0, messages: the bytes begin with a message within the limits
abbrev pub BeginsWithMessage : LimitValues → List ℕ → Type 0
BeginsWithMessage limits bytes = (count : ℕ) × IsAccepted IsTypedPayload limits (take count bytes)

-- NFC Forum, Type 2 Tag, TLV blocks: NULL, lock control or NDEF message; or the high octet of a length
abbrev pub is_around : ℕ → Bool
is_around octet = octet == 0 || octet == 1 || octet == 3

-- NDEF 1.0, messages: a message begins at this place, 1 to 16, and at none before it
pub record IsMessageNear (limits : LimitValues) (bytes : List ℕ) (place : ℕ) : Type 0 where
  pub some : 1 ≤ place
  pub near : place ≤ 16
  pub begins : BeginsWithMessage limits (drop place bytes)
  pub first : (other : ℕ) → 1 ≤ other → other < place → ¬ BeginsWithMessage limits (drop other bytes)

-- RTD URI 1.0, URI identifier codes: the first letter of `http` is in place of the code
pub record IsCodeLeftOut (bytes : List ℕ) (refusal : Refusal) : Type 0 where
  pub reason : refusal.reason ≡ reasons.UriCode
  pub octet : slice_index bytes refusal.at ≡ 0x68

-- NDEF 1.0, TNF, and RTD URI 1.0, URI identifier codes: the reasons that only a strict reader gives
abbrev pub IsStrictAlone : Refusal → Type 0
IsStrictAlone refusal = (refusal.reason ≡ reasons.ReservedTnf) ⊎ (refusal.reason ≡ reasons.UriCode)

-- the same limits, for a reader of the standard profile
abbrev pub standard : LimitValues → LimitValues
standard limits = record limits { profile = Standard }

-- NFC Forum, Type 2 Tag, TLV blocks: a first byte that is refused may be one of what surrounds a message on a tag
pub record IsSurrounded (bytes : List ℕ) (refusal : Refusal) : Type 0 where
  pub at_first : refusal.at ≡ 0
  pub around : is_around (slice_index bytes 0) ≡ true

-- NFC Forum, Type 2 to Type 5 Tag: the first byte is refused, and the bytes are a text that spells others, or they have
-- bytes for a message as a tag has them
abbrev pub IsOfDump : (bytes : List ℕ) → Refusal → Hint → Type 0
IsOfDump bytes refusal (hints.Text text) = (refusal.at ≡ 0) × (text_of bytes ≡ Some text)
IsOfDump bytes refusal (hints.InTag found) =
    (refusal.at ≡ 0) × (text_of bytes ≡ None) × Finds bytes (Some found)
IsOfDump bytes refusal hint = ⊥

-- they are neither
abbrev pub IsNoDump : (bytes : List ℕ) → Refusal → Type 0
IsNoDump bytes refusal = (hint : Hint) → ¬ IsOfDump bytes refusal hint

-- NFC Forum, Type 2 Tag, terminator TLV: it is in place of a message
pub record IsAfterBlocks (bytes : List ℕ) (refusal : Refusal) : Type 0 where
  pub at_first : refusal.at ≡ 0
  pub terminator : slice_index bytes 0 ≡ 0xFE

-- a hint that is not of a dump applies where these bytes are refused so
abbrev pub AppliesElse : LimitValues → (bytes : List ℕ) → Refusal → Hint → Type 0
AppliesElse limits bytes refusal (hints.MessageAt place) =
    IsSurrounded bytes refusal × IsMessageNear limits bytes place
AppliesElse limits bytes refusal hints.AfterBlocks = IsAfterBlocks bytes refusal
AppliesElse limits bytes refusal hints.CodeLeftOut = IsCodeLeftOut bytes refusal
AppliesElse limits bytes refusal hints.StandardProfile =
    IsStrictAlone refusal × ¬ IsCodeLeftOut bytes refusal × BeginsWithMessage (standard limits) bytes
AppliesElse limits bytes refusal hint = ⊥

-- a hint applies where these bytes are refused so
abbrev pub Applies : LimitValues → (bytes : List ℕ) → Refusal → Hint → Type 0
Applies limits bytes refusal hint =
    IsOfDump bytes refusal hint ⊎ (IsNoDump bytes refusal × AppliesElse limits bytes refusal hint)

-- At most one hint applies.
abbrev pub OneHint : Type 0
OneHint = (limits : LimitValues) (bytes : List ℕ) (refusal : Refusal) (hint other : Hint)
    → Applies limits bytes refusal hint → Applies limits bytes refusal other → hint ≡ other

-- ---- sentences, and what they name

-- the sentence for a message on a tag, which ends with what surrounds it there
abbrev pub message_text : Found → (around : List ℕ) → List ℕ
message_text found around =
    codes "A message of length " ++ decimal found.length ++ codes " may begin at byte " ++ decimal found.at ++ around

-- the sentence for what a tag that states a length has for a message
abbrev pub stated_text : Found → (around : List ℕ) → List ℕ
stated_text found around = if found.length == 0 then codes "This tag is empty: it has no bytes for a message."
    else message_text found around

-- the sentence for what a tag has for a message
abbrev pub text_in : Wrapping → Found → List ℕ
text_in wrappings.Block found = stated_text found (codes ", in an NDEF TLV of a tag.")
text_in wrappings.Attributes found = stated_text found (codes ", after the attribute block of a Type 3 Tag.")
text_in wrappings.File found = stated_text found (codes ", after its length, as in a file of a Type 4 Tag.")
text_in wrappings.Interrupted found = message_text found
    (codes ", in an NDEF TLV of a tag, but reserved areas may lie before its end: use a reader that skips them.")
text_in wrappings.Unfinished found =
    codes "This Type 3 Tag is being written: its attribute block says that the message is not whole yet."

-- the same, by what surrounds the message
abbrev pub tag_text : Found → List ℕ
tag_text found = text_in found.wrapping found

-- the sentence for a text that spells bytes
abbrev pub dump_text : DumpText → List ℕ
dump_text texts.Digits = codes "These are digits, not the bytes that they spell; `--hex` reads them."
dump_text texts.Xxd = codes "This is a dump by xxd, not the bytes that it spells; `--hex` reads it."
dump_text texts.Hexdump = codes "This is a dump by hexdump, not the bytes that it spells; `--hex` reads it."
dump_text texts.Od = codes "This is a dump by od, not the bytes that it spells; `--hex` reads it."
dump_text texts.Suppressed =
    codes "This is a dump by od with `*` for repeated lines, whose number it doesn't say; `od -v` writes them."
dump_text texts.Words =
    codes "This is a dump in words, not bytes; `--hex` reads those of `hexdump -C` and `od -tx1`."
dump_text texts.Flipper = codes "This is a file of a Flipper, not the bytes that it spells; `--hex` reads it."
dump_text texts.Proxmark =
    codes "This is what a Proxmark prints, not the bytes; `--hex` reads the digits of its blocks."
dump_text texts.Base64 = codes "This may be base64, not the bytes that it spells; `base64 -d` gives them."

-- the sentence for a message at a place
abbrev pub near_text : (place : ℕ) → List ℕ
near_text place =
    codes "The bytes may begin with what surrounds a message on a tag; a message begins at byte " ++ decimal place
    ++ codes "."

-- the sentence for a hint
abbrev pub hint_text : Hint → List ℕ
hint_text (hints.InTag found) = tag_text found
hint_text (hints.Text text) = dump_text text
hint_text (hints.MessageAt place) = near_text place
hint_text hints.AfterBlocks = codes "FE (hexadecimal) ends the TLV blocks of a tag."
hint_text hints.CodeLeftOut = codes "68 (hexadecimal) is the letter h: was the identifier code left out?"
hint_text hints.StandardProfile = codes "The standard profile reads this (`--profile standard`, in C NDEF_STANDARD)."

-- the place where a message may begin; 0 where the hint names none
abbrev pub hint_place : Hint → ℕ
hint_place (hints.InTag found) = found.at
hint_place (hints.MessageAt place) = place
hint_place hint = 0

-- the number of bytes at its place that a tag has for a message; 0 where reserved areas may cut it, or it is not whole
abbrev pub length_in : Wrapping → (length : ℕ) → ℕ
length_in wrappings.Interrupted length = 0
length_in wrappings.Unfinished length = 0
length_in wrapping length = length

-- the same, of what a tag has for a message
abbrev pub given_length : Found → ℕ
given_length found = length_in found.wrapping found.length

-- the number of bytes that a tag has for it; 0 where the hint names none
abbrev pub hint_length : Hint → ℕ
hint_length (hints.InTag found) = given_length found
hint_length hint = 0
