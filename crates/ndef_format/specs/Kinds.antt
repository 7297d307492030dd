-- The kinds of payload that the types of records name (NFC Forum, RTD 1.0, well-known types).
use Rattle.std.specs.Prelude.{ℕ, List, [], ◌∷◌, codes, bytes_eq, if◌then◌else◌, ◌≡◌, ◌≢◌, ◌<◌, ◌≤◌, length}
use Rattle.std.specs.List.{AllByRecursion}
use Rattle.ndef_format.specs.declared.kind.Kind.{Kind}
use Rattle.ndef_format.specs.declared.kind.Kind.TheVariants.{Text, Uri, SmartPoster, Request, Select, Carrier, Action, Size, MediaType, Alternative, Collision, Error, Other}
use Rattle.ndef_format.specs.declared.tnf.Tnf.{Tnf}
use Rattle.ndef_format.specs.declared.tnf.Tnf.TheVariants.{WellKnown}

-- RTD Text, RTD URI, RTD Smart Poster and Connection Handover 1.2: the type names that they define
abbrev pub names : List (List ℕ × Kind)
names =
    (codes "T", Text) ∷ (codes "U", Uri) ∷ (codes "Sp", SmartPoster)
    ∷ (codes "Hr", Request) ∷ (codes "Hs", Select) ∷ (codes "Hc", Carrier)
    ∷ (codes "act", Action) ∷ (codes "s", Size) ∷ (codes "t", MediaType)
    ∷ (codes "ac", Alternative) ∷ (codes "cr", Collision) ∷ (codes "err", Error) ∷ []

-- the kind of a name in a table, octet for octet
abbrev pub named : List (List ℕ × Kind) → List ℕ → Kind
named [] name = Other
named (n ∷ ns) name = if bytes_eq n.0 name then n.1 else named ns name

-- NDEF 1.0, TYPE: the kind of a type, which only the well-known types have
abbrev pub kind_of : Tnf → List ℕ → Kind
kind_of WellKnown name = named names name
kind_of _ name = Other

-- the name of a kind
abbrev pub kind_name : Kind → List ℕ
kind_name Text = codes "T"
kind_name Uri = codes "U"
kind_name SmartPoster = codes "Sp"
kind_name Request = codes "Hr"
kind_name Select = codes "Hs"
kind_name Carrier = codes "Hc"
kind_name Action = codes "act"
kind_name Size = codes "s"
kind_name MediaType = codes "t"
kind_name Alternative = codes "ac"
kind_name Collision = codes "cr"
kind_name Error = codes "err"
kind_name Other = []

-- RTD Text, RTD URI, RTD Smart Poster and Connection Handover 1.2: the kinds whose payloads are
-- checked in a message; any other record may have any payload
abbrev pub outer_kind : Kind → Kind
outer_kind Text = Text
outer_kind Uri = Uri
outer_kind SmartPoster = SmartPoster
outer_kind Request = Request
outer_kind Select = Select
outer_kind Carrier = Carrier
outer_kind Action = Other
outer_kind Size = Other
outer_kind MediaType = Other
outer_kind Alternative = Other
outer_kind Collision = Other
outer_kind Error = Other
outer_kind Other = Other

-- ---- laws

-- Each kind but Other has one name, which only the well-known types have.
abbrev pub KindsHaveNames : Type 0
KindsHaveNames = (tnf : Tnf) (name : List ℕ) → kind_of tnf name ≢ Other
    → (tnf ≡ WellKnown) × (name ≡ kind_name (kind_of tnf name))

-- A well-known type with the name of a kind is of that kind.
abbrev pub NamesHaveKinds : Type 0
NamesHaveKinds = (kind : Kind) → kind_of WellKnown (kind_name kind) ≡ kind

-- No name of a kind has more than three octets or a 0 octet.
abbrev pub NamesAreShort : Type 0
NamesAreShort =
    (kind : Kind) → (length (kind_name kind) ≤ 3) × AllByRecursion (λ b. 0 < b) (kind_name kind)
