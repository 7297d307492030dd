-- The payloads of the records of a message, by the kinds of their types (NFC Forum, RTD 1.0).
use Rattle.std.specs.Prelude.{ℕ, Option, Some, None, List}
use Rattle.ndef_format.specs.Kinds.{kind_of, outer_kind}
use Rattle.ndef_format.specs.Nested.{IsNest, IsPayload, table_in}
use Rattle.ndef_format.specs.declared.profile.Profile.{Profile}
use Rattle.ndef_format.specs.declared.kind.Kind.{Kind}
use Rattle.ndef_format.specs.declared.table.Table.{Table}
use Rattle.ndef_format.specs.declared.tnf.Tnf.{Tnf}

-- the payloads of each type, by its type name format and its name, of a message with that number of records, for each
-- profile
abbrev pub Sets : Type 1
Sets = Tnf → List ℕ → ℕ → Profile → List ℕ → Type 0

-- the payloads of each kind, likewise
abbrev pub KindSets : Type 1
KindSets = Kind → ℕ → Profile → List ℕ → Type 0

-- those of the types, by their kinds
abbrev pub by_kind : KindSets → Sets
by_kind set tnf name = set (kind_of tnf name)

-- RTD Text, RTD URI, RTD Smart Poster and Connection Handover 1.2: the payloads of a kind, which
-- hold this message or none
abbrev pub IsTypedBy : Option Table → Kind → ℕ → Profile → List ℕ → Type 0
IsTypedBy (Some table) kind records profile s = IsNest table records profile s
IsTypedBy None kind records profile s = IsPayload (outer_kind kind) profile s

-- the payloads of the kinds of records of a message
abbrev pub IsKindPayload : KindSets
IsKindPayload kind = IsTypedBy (table_in kind) kind

-- .. and of their types
abbrev pub IsTypedPayload : Sets
IsTypedPayload = by_kind IsKindPayload
