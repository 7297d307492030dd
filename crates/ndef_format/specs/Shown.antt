-- The printed texts of type name formats, reasons and refusals, and the type name format of a
-- number.
use Rattle.std.specs.Prelude.{◌≡◌, ◌<◌, ℕ, Result, Ok, Err, List, codes, ◌++◌, decimal}
use Rattle.ndef_format.specs.Records.{code}
use Rattle.ndef_format.specs.Reasons.{reason_name, reason_number}
use Rattle.ndef_format.specs.declared.tnf.Tnf.{Tnf}
use Rattle.ndef_format.specs.declared.tnf.TnfError.{TnfError}
use Rattle.ndef_format.specs.declared.tnf.Tnf.TheVariants.{Empty, WellKnown, Media, AbsoluteUri, External, Unknown, Unchanged}
use Rattle.ndef_format.specs.declared.reason.Reason.{Reason}

-- NDEF 1.0, TNF: the type name format with this number; above 6 there is none
abbrev pub IsTnfOf : ℕ → Result Tnf TnfError → Type 0
IsTnfOf number (Ok tnf) = code tnf ≡ number
IsTnfOf number (Err error) = (error.0 ≡ number) × (6 < number)

-- the name by which a type name format is printed
abbrev pub tnf_name : Tnf → List ℕ
tnf_name Empty = codes "Empty"
tnf_name WellKnown = codes "WellKnown"
tnf_name Media = codes "Media"
tnf_name AbsoluteUri = codes "AbsoluteUri"
tnf_name External = codes "External"
tnf_name Unknown = codes "Unknown"
tnf_name Unchanged = codes "Unchanged"

-- a type name format, as it is printed
abbrev pub tnf_text : Tnf → List ℕ
tnf_text tnf = decimal (code tnf) ++ codes " " ++ tnf_name tnf

-- a reason, as it is printed
abbrev pub reason_text : Reason → List ℕ
reason_text reason = decimal (reason_number reason) ++ codes " " ++ reason_name reason

-- a refusal at a place, as it is printed
abbrev pub refusal_text : ℕ → Reason → List ℕ
refusal_text place reason = codes "refused at " ++ decimal place ++ codes ": " ++ reason_text reason
