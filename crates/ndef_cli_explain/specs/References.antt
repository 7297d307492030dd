-- The references of a handover's carriers, in JSON.
use Rattle.std.specs.Prelude.{◌≡◌, ℕ, ◌+◌, ◌<◌, List, [], ◌∷◌, ◌++◌, Option, Some, None, Result, Ok, Err, IfSome, codes, map}
use Rattle.ndef_format.specs.Messages.{run_record}
use Rattle.ndef_message.specs.Views.{Viewed}
use Rattle.ndef_cli.specs.Quoting.{Text, quoted_bytes}
use Rattle.ndef_types.specs.Links.{FindsLinks}
use Rattle.ndef_types.specs.declared.link.Link.{Link}
use Rattle.ndef_types.specs.declared.link.LinkError.{LinkError}
use Rattle.ndef_types.specs.declared.link.LinkError.TheVariants as errors
use Rattle.ndef_types.specs.declared.power.Power.{Power}
use Rattle.ndef_types.specs.declared.power.Power.TheVariants as powers
use Rattle.serde_json.specs.Data.{Data, string}
use Rattle.ndef_cli_explain.specs.Outputs.{Pair, array_of, number_value, object_of, with_pairs}
use Rattle.ndef_cli_explain.specs.declared.output.Output.{Output}

-- Connection Handover 1.2, carrier power state: its name
abbrev pub power_name : Power → Text
power_name powers.Inactive = codes "inactive"
power_name powers.Active = codes "active"
power_name powers.Activating = codes "activating"
power_name powers.Unknown = codes "unknown"

-- the number of the record to which a reference leads, if there is one
abbrev pub record_pairs : (index : Option ℕ) → List Pair
record_pairs None = []
record_pairs (Some index) = (codes "record", number_value (index + 1)) ∷ []

-- Connection Handover 1.2, Alternative Carrier record: its power state, its carrier data reference and that record
abbrev pub reference_object : Link → Data
reference_object link =
    object_of ((codes "power", string (power_name link.ac.power)) ∷ (record_pairs link.index
    ++ (codes "reference", string (quoted_bytes link.ac.reference)) ∷ []))

-- the array of these, where there is one
abbrev pub reference_pairs : List Link → List Pair
reference_pairs [] = []
reference_pairs (link ∷ links) =
    (codes "references", array_of (map reference_object (link ∷ links))) ∷ []

-- the same, where the handover could be read, and none where it is refused; a lack of memory isn't left out in silence
abbrev pub TellsLinks : Result (List Link) LinkError → List Pair → Type 0
TellsLinks (Ok links) pairs = pairs ≡ reference_pairs links
TellsLinks (Err (errors.Refused refusal)) pairs = pairs ≡ []
TellsLinks (Err errors.NoMemory) pairs = ⊥

-- Connection Handover 1.2: the references of the first handover of a message of few records
abbrev pub AreReferencesIn : Option Viewed → List Pair → Type 0
AreReferencesIn None pairs = pairs ≡ []
AreReferencesIn (Some message) pairs =
    (found : Result (List Link) LinkError) × FindsLinks message.profile (map run_record message.runs) found
    × TellsLinks found pairs

-- those of a message are appended
abbrev pub AddsReferences : Option Viewed → (old new : Output) → Type 0
AddsReferences message old new =
    (pairs : List Pair) × AreReferencesIn message pairs × (new ≡ with_pairs old pairs)

-- the records are among these
abbrev pub IsAmong : (count : ℕ) → Link → Type 0
IsAmong count link = IfSome link.index (λ index. index < count)
