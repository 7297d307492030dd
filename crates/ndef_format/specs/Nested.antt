-- Messages inside a payload, and the payloads of their records (RTD Smart Poster 1.0, Connection
-- Handover 1.2).
use Rattle.std.specs.Prelude.{ℕ, List, IsUtf8, Bool, Option, Some, None, unwrap_or, true, false, if◌then◌else◌, ◌||◌, ◌≡◌, [], ◌∷◌, ⊤, count_by, ◌≤◌, length, ◌<◌, ◌⊎◌}
use Rattle.std.specs.List.{AllByRecursion}
use Rattle.ndef_format.specs.Records.{AreOctets, Run}
use Rattle.ndef_format.specs.Octets.{AreOctetsOf}
use Rattle.ndef_format.specs.Texts.{IsText}
use Rattle.ndef_format.specs.Uris.{IsUri}
use Rattle.ndef_format.specs.Handovers.{IsAlternative, IsError, IsCarrier}
use Rattle.ndef_format.specs.Kinds.{kind_of}
use Rattle.ndef_format.specs.Messages.{Item, SpellsBy}
use Rattle.ndef_format.specs.declared.profile.Profile.{Profile}
use Rattle.ndef_format.specs.declared.kind.Kind.{Kind}
use Rattle.ndef_format.specs.declared.kind.Kind.TheVariants as kinds
use Rattle.ndef_format.specs.declared.table.Table.{Table}
use Rattle.ndef_format.specs.declared.table.Table.TheVariants.{SmartPoster, Request, Select}
use Rattle.ndef_format.specs.declared.tnf.Tnf.{Tnf}

-- RTD Text, RTD URI, RTD Smart Poster and Connection Handover 1.2: the payloads of a kind, where
-- messages in them aren't read
abbrev pub IsPayload : Kind → Profile → List ℕ → Type 0
IsPayload kinds.Text profile s = IsText s
IsPayload kinds.Uri profile s = IsUri profile s
IsPayload kinds.Action profile s = AreOctetsOf 1 s
IsPayload kinds.Size profile s = AreOctetsOf 4 s
IsPayload kinds.MediaType profile s = IsUtf8 s
IsPayload kinds.Collision profile s = AreOctetsOf 2 s
IsPayload kinds.Alternative profile s = IsAlternative s
IsPayload kinds.Error profile s = IsError s
IsPayload kinds.Carrier profile s = IsCarrier s
IsPayload kinds.SmartPoster profile s = AreOctets s
IsPayload kinds.Request profile s = AreOctets s
IsPayload kinds.Select profile s = AreOctets s
IsPayload kinds.Other profile s = AreOctets s

-- RTD Smart Poster 1.0 and Connection Handover 1.2: the nested message that a payload of a kind
-- holds, if it holds one
abbrev pub table_in : Kind → Option Table
table_in kinds.SmartPoster = Some SmartPoster
table_in kinds.Request = Some Request
table_in kinds.Select = Some Select
table_in kinds.Text = None
table_in kinds.Uri = None
table_in kinds.Carrier = None
table_in kinds.Action = None
table_in kinds.Size = None
table_in kinds.MediaType = None
table_in kinds.Alternative = None
table_in kinds.Collision = None
table_in kinds.Error = None
table_in kinds.Other = None

-- the same; a poster where it holds none
abbrev pub table_of : Kind → Table
table_of kind = unwrap_or (table_in kind) SmartPoster

-- whether they are the same
abbrev pub is_table : Table → Table → Bool
is_table SmartPoster SmartPoster = true
is_table Request Request = true
is_table Select Select = true
is_table _ _ = false

-- RTD Smart Poster 1.0 and Connection Handover 1.2: the nested messages in which payloads of the
-- kind are checked
abbrev pub tables_with : Kind → List Table
tables_with kinds.Uri = SmartPoster ∷ []
tables_with kinds.Text = SmartPoster ∷ []
tables_with kinds.Action = SmartPoster ∷ []
tables_with kinds.Size = SmartPoster ∷ []
tables_with kinds.MediaType = SmartPoster ∷ []
tables_with kinds.Collision = Request ∷ []
tables_with kinds.Alternative = Request ∷ Select ∷ []
tables_with kinds.Error = Select ∷ []
tables_with kinds.SmartPoster = []
tables_with kinds.Request = []
tables_with kinds.Select = []
tables_with kinds.Carrier = []
tables_with kinds.Other = []

-- it is one of them
abbrev pub is_among : Table → List Table → Bool
is_among table [] = false
is_among table (t ∷ ts) = is_table table t || is_among table ts

-- the payloads of a kind are checked there
abbrev pub is_checked : Table → Kind → Bool
is_checked table kind = is_among table (tables_with kind)

-- any other record may have any payload
abbrev pub checked : Table → Kind → Kind
checked table kind = if is_checked table kind then kind else kinds.Other

-- the kind of a record there, by its type
abbrev pub kind_in : Table → Tnf → List ℕ → Kind
kind_in table tnf name = checked table (kind_of tnf name)

-- the kind is that of a URI
abbrev pub is_uri : Kind → Bool
is_uri kinds.Uri = true
is_uri _ = false

-- RTD Smart Poster 1.0: exactly one URI; Connection Handover 1.2: a request begins with its
-- collision resolution
abbrev pub IsComplete : Table → List Item → Type 0
IsComplete SmartPoster items = count_by (λ i. is_uri (kind_in SmartPoster i.tnf i.kind)) items ≡ 1
IsComplete Request [] = ⊥
IsComplete Request (item ∷ items) = kind_in Request item.tnf item.kind ≡ kinds.Collision
IsComplete Select items = ⊤

-- RTD Smart Poster 1.0 and Connection Handover 1.2: each record has a payload of its kind, and
-- those are there that must be
pub record HasContents (table : Table) (profile : Profile) (items : List Item) : Type 0 where
  pub members : AllByRecursion (λ i. IsPayload (kind_in table i.tnf i.kind) profile i.payload) items
  pub complete : IsComplete table items

-- a message of at most this number of records, each in one piece, which is our choice
pub record IsNestedBy (table : Table) (records : ℕ) (profile : Profile)
    (runs : List Run) (items : List Item) (bytes : List ℕ) : Type 0 where
  pub spelling : SpellsBy profile runs items bytes
  pub single : AllByRecursion (λ r. r.later ≡ []) runs
  pub few : length items ≤ records
  pub contents : HasContents table profile items

-- RTD Smart Poster 1.0 and Connection Handover 1.2: these bytes are a nested message
abbrev pub Nested : Table → ℕ → Profile → List ℕ → Type 0
Nested table records profile bytes =
    (runs : List Run) × (items : List Item) × IsNestedBy table records profile runs items bytes

-- Connection Handover 1.2, version octet: the major version 1 in the high four bits
abbrev pub IsVersion : ℕ → Type 0
IsVersion v = (0x10 ≤ v) × (v < 0x20)

-- the payloads that hold a nested message: that of a handover follows a version octet, and a select
-- may have no message
abbrev pub IsNest : Table → ℕ → Profile → List ℕ → Type 0
IsNest SmartPoster records profile s = Nested SmartPoster records profile s
IsNest Request records profile [] = ⊥
IsNest Request records profile (v ∷ s) = IsVersion v × Nested Request records profile s
IsNest Select records profile [] = ⊥
IsNest Select records profile (v ∷ s) = IsVersion v × ((s ≡ []) ⊎ Nested Select records profile s)
