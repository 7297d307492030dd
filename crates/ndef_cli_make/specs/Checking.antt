-- The payloads that are written: those that a strict reader takes (RTD Text, URI, Smart Poster,
-- Connection Handover 1.2).
use Rattle.std.specs.Prelude.{◌≡◌, ⊤, ◌⊎◌, Bool, Some, None, true, false, Ok, Err, codes}
use Rattle.ndef_format.specs.Messages.{Item}
use Rattle.ndef_format.specs.declared.profile.Profile.TheVariants.{Strict}
use Rattle.ndef_format.specs.declared.refusal.Refusal.{Refusal}
use Rattle.ndef_format.specs.Kinds.{kind_of}
use Rattle.ndef_lang.specs.Place.{IsRefused}
use Rattle.ndef_format.specs.Payloads.{IsKindPayload}
use Rattle.ndef_format.specs.NestedReasons.{KindReason}
use Rattle.ndef_cli_make.specs.Asked.{AskedPart}
use Rattle.ndef_cli.specs.Options.{flag_of}
use Rattle.ndef_cli_make.specs.MayBeWritten.{HasBar}
use Rattle.ndef_cli_make.specs.Records.{Answer}
use Rattle.ndef_cli_make.specs.declared.fault.Fault.TheVariants.{Usage, Refused, Memory}
use Rattle.ndef_cli_make.specs.declared.fault.Refused.TheVariants.{BadPayload}

-- RTD Text, RTD URI, RTD Smart Poster and Connection Handover 1.2: the payload is one of its type,
-- for a strict reader
abbrev pub IsOfItsType : Item → Type 0
IsOfItsType i = IsKindPayload (kind_of i.tnf i.kind) 65535 Strict i.payload

-- the payload isn't one of its type: where and why a strict reader refuses it
abbrev pub IsUntyped : Item → Refusal → Type 0
IsUntyped i refusal = let kind = kind_of i.tnf i.kind in
    IsRefused (IsKindPayload kind 65535 Strict) (KindReason kind 65535 Strict) i.payload refusal.at refusal.reason

-- the record, where it may be written, or what is forbidden
abbrev pub IsAllowed : Item → Answer → Type 0
IsAllowed i (Ok made) = (made ≡ i) × HasBar i None
IsAllowed i (Err (Usage usage_error)) = HasBar i (Some usage_error)
IsAllowed i (Err Memory) = ⊤
IsAllowed i (Err _) = ⊥

-- the record, where its payload is one of its type and may be written; or where and why it isn't, or what is forbidden.
-- Memory may run out for the message in a payload of its type
abbrev pub Checked : Item → Answer → Type 0
Checked i (Ok made) = (made ≡ i) × IsOfItsType i × HasBar i None
Checked i (Err (Refused (BadPayload refusal))) = IsUntyped i refusal
Checked i (Err (Usage usage_error)) = IsOfItsType i × HasBar i (Some usage_error)
Checked i (Err Memory) = IsOfItsType i
Checked i (Err _) = ⊥

-- what is made is checked, unless it is to be written unchecked: its payload is one of its type, and
-- may be written
abbrev pub MakesIf : (unchecked : Bool) → (makes : Answer → Type 0) → Answer → Type 0
MakesIf true makes answer = makes answer
MakesIf false makes (Ok i) = makes (Ok i) × IsOfItsType i × HasBar i None
MakesIf false makes (Err (Usage usage_error)) = makes (Err (Usage usage_error))
    ⊎ ((i : Item) × makes (Ok i) × IsOfItsType i × HasBar i (Some usage_error))
MakesIf false makes (Err Memory) = makes (Err Memory) ⊎ ((i : Item) × makes (Ok i) × IsOfItsType i)
MakesIf false makes (Err (Refused (BadPayload refusal))) =
    (i : Item) × makes (Ok i) × IsUntyped i refusal
MakesIf false makes (Err fault) = makes (Err fault)

-- whether the part requests a record with any payload
abbrev pub is_unchecked : AskedPart → Bool
is_unchecked part = flag_of (codes "unchecked") part.1
