-- The laws of a language for the records of a message.
use Rattle.std.specs.Prelude.{ℕ, List, ◌↔◌}
use Rattle.ndef_format.specs.Records.{AreOctets}
use Rattle.ndef_format.specs.declared.profile.Profile.{Profile}
use Rattle.ndef_format.specs.declared.reason.Reason.{Reason}
use Rattle.ndef_format.specs.declared.tnf.Tnf.{Tnf}
use Rattle.ndef_format.specs.Laws.{IsNoName}
use Rattle.ndef_format.specs.Payloads.{Sets}
use Rattle.ndef_format.specs.Reasons.{Conditions}
use Rattle.ndef_lang.specs.Language.{Reaches}

-- The octets lead on, for any type, number of records and profile.
abbrev pub LeadsEach : (old new : Sets) → List ℕ → Type 0
LeadsEach old new octets = (tnf : Tnf) (name : List ℕ) (records : ℕ) (profile : Profile)
    → Reaches (old tnf name records profile) (new tnf name records profile) octets

-- A state that was reached is reached again after any octets, for any type, number of records and profile.
abbrev pub AllLead : Sets → Type 0
AllLead reached = (octets : List ℕ) → AreOctets octets → LeadsEach reached reached octets

-- Any octets are a payload of a type whose name is empty or has a 0 octet.
abbrev pub TakesOthers : Sets → Type 0
TakesOthers set = (tnf : Tnf) (name : List ℕ) → IsNoName name → (records : ℕ) (profile : Profile) (s : List ℕ)
    → AreOctets s → set tnf name records profile s

-- Payloads are octets.
abbrev pub AreOfOctets : Sets → Type 0
AreOfOctets set = (tnf : Tnf) (name : List ℕ) (records : ℕ) (profile : Profile) (s : List ℕ)
    → set tnf name records profile s → AreOctets s

-- the payloads of each type are the same
abbrev pub SameTypes : (set other : Sets) → Type 0
SameTypes set other = (tnf : Tnf) (name : List ℕ) (records : ℕ) (profile : Profile) (s : List ℕ)
    → set tnf name records profile s ↔ other tnf name records profile s

-- the same reasons hold of each octet
abbrev pub SameTypeConditions : (holds other : Conditions) → Type 0
SameTypeConditions holds other =
    (tnf : Tnf) (name : List ℕ) (records : ℕ) (profile : Profile) (s : List ℕ) (b : ℕ) (reason : Reason)
    → holds tnf name records profile s b reason ↔ other tnf name records profile s b reason
