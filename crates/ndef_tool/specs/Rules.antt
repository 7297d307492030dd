-- The rules by which messages are read.
use Rattle.ndef_format.specs.Limits.{LimitValues}
use Rattle.ndef_format.specs.NestedReasons.{TypedReason}
use Rattle.ndef_format.specs.Payloads.{IsTypedPayload, Sets}
use Rattle.ndef_format.specs.Reasons.{Conditions}

-- which payloads the kinds of records have, why others are refused, and the limits
pub record Rules : Type 1 where
  pub payloads : Sets
  pub reasons : Conditions
  pub limits : LimitValues

-- these three
abbrev pub rules_of : Sets → Conditions → LimitValues → Rules
rules_of set holds limits = record { payloads = set; reasons = holds; limits = limits }

-- RTD Text, RTD URI, RTD Smart Poster and Connection Handover 1.2: the payloads of these types are
-- checked
abbrev pub typed_rules : LimitValues → Rules
typed_rules limits = rules_of IsTypedPayload TypedReason limits
