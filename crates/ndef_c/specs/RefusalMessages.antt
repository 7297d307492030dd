-- Why bytes are refused, in sentences.
use Rattle.std.specs.Prelude.{◌≡◌, ℕ, ◌⊎◌, List}
use Rattle.ndef_format.specs.Limits.{LimitValues}
use Rattle.ndef_format.specs.NestedReasons.{TypedReason}
use Rattle.ndef_format.specs.Payloads.{IsTypedPayload}
use Rattle.ndef_format.specs.Refusals.{Refuses}
use Rattle.ndef_format.specs.declared.refusal.Refusal.{Refusal}
use Rattle.ndef_diagnostics.specs.Hints.{BeginsWithMessage}
use Rattle.ndef_diagnostics.specs.Expectations.{IsExpected}
use Rattle.ndef_diagnostics.specs.Wordings.{expected_text}
use Rattle.ndef_diagnostics.specs.declared.expected.Expected.{Expected}
use Rattle.ndef_c.specs.Buffers.{Gives}
use Rattle.ndef_c.specs.declared.status.TheConstants.{END}

-- there is no sentence: the buffer and the number are as they were
pub record GivesNone (before after : List ℕ) (counted count status : ℕ) : Type 0 where
  pub ended : status ≡ END
  pub buffer : after ≡ before
  pub number : count ≡ counted

-- NDEF 1.0, messages: the sentence for the expectation where the bytes are refused is given
pub record GivesExpected (limits : LimitValues) (bytes before after : List ℕ) (count status : ℕ) : Type 0 where
  pub refusal : Refusal
  pub refused : Refuses IsTypedPayload TypedReason limits bytes refusal
  pub expected : Expected
  pub wants : IsExpected bytes refusal expected
  pub gives : Gives (expected_text refusal.reason expected) before after count status

-- the same, or none where the bytes begin with a message
abbrev pub GivesRefusalMessage : LimitValues → (bytes before after : List ℕ) (counted count status : ℕ) → Type 0
GivesRefusalMessage limits bytes before after counted count status =
    (BeginsWithMessage limits bytes × GivesNone before after counted count status)
    ⊎ GivesExpected limits bytes before after count status
