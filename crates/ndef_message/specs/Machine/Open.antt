-- The octets that are kept of the open record, after octets of one field.
use Rattle.std.specs.Prelude.{◌+◌, ◌<◌, ◌≤◌, ℕ, List, ◌++◌, length, Option, Some, None, unwrap_or, ⊤, ◌⊎◌}
use Rattle.ndef_format.specs.Messages.{Item}
use Rattle.ndef_format.specs.declared.tnf.Tnf.{Tnf}
use Rattle.ndef_format.specs.declared.tnf.Tnf.TheVariants.{Unknown}
use Rattle.ndef_message.specs.Opened.{Opened, header_tnf}
use Rattle.ndef_message.specs.declared.phase.Phase.{Phase}
use Rattle.ndef_message.specs.declared.phase.Phase.TheVariants as phases

-- the record that has come
abbrev pub opened_item : Opened → Item
opened_item o = record { tnf = unwrap_or o.tnf Unknown; kind = o.kind; id = o.id; payload = o.payload }

-- the type name format, once the first octet of a head has come
abbrev pub tnf_after : Option Tnf → List ℕ → Option Tnf
tnf_after (Some tnf) t = Some tnf
tnf_after None t = header_tnf t

-- after octets, by the field that they are of
abbrev pub opened_after : Phase → Opened → List ℕ → Opened
opened_after phases.Head o t = record o { tnf = tnf_after o.tnf t }
opened_after (phases.Type head left) o t = record o { kind = o.kind ++ t }
opened_after (phases.Id head left) o t = record o { id = o.id ++ t }
opened_after (phases.Payload head left) o t = record o { payload = o.payload ++ t }
opened_after phases.Done o t = o
opened_after (phases.Refused refusal) o t = o

-- the memory holds these octets of that field
abbrev pub HasRoom : Phase → Opened → List ℕ → Type 0
HasRoom (phases.Type head left) o t = length o.kind + length t ≤ 255
HasRoom (phases.Id head left) o t = length o.id + length t ≤ 255
HasRoom _ o t = ⊤

-- there are such octets of that field, and they may need memory
abbrev pub WantsMemory : Phase → Opened → List ℕ → Type 0
WantsMemory (phases.Type head left) o t = (0 < length t) × (32 < length o.kind + length t)
WantsMemory (phases.Id head left) o t = (0 < length t) × (32 < length o.id + length t)
WantsMemory (phases.Payload head left) o t = 0 < length t
WantsMemory _ o t = ⊥

-- a copy of the record may need memory
abbrev pub AsksMemory : Item → Type 0
AsksMemory m = (32 < length m.kind) ⊎ ((32 < length m.id) ⊎ (0 < length m.payload))
