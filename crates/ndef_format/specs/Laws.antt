-- The laws of the format.
use Rattle.std.specs.Prelude.{◌≡◌, ℕ, ◌+◌, List, [], ◌++◌, ◌≢◌, true, map, ◌≤◌, length, take, ◌<◌, ⊤, ◌∷◌, ◌⊎◌}
use Rattle.std.specs.List.{AllByRecursion}
use Rattle.ndef_format.specs.Messages.{Item, Spells, SpellsBy}
use Rattle.ndef_format.specs.Canonical.{IsItem, whole_pieces, canonical}
use Rattle.ndef_format.specs.Records.{Run}
use Rattle.ndef_format.specs.Limits.{AreInRange, LimitValues, IsWithin, greatest_length}
use Rattle.ndef_format.specs.Payloads.{Sets, KindSets}
use Rattle.ndef_format.specs.Refusals.{IsPlace, Refuses}
use Rattle.ndef_format.specs.Accepted.{Accepted, IsAccepted}
use Rattle.ndef_format.specs.Reasons.{Conditions}
use Rattle.ndef_format.specs.declared.kind.Kind.{Kind}
use Rattle.ndef_format.specs.declared.profile.Profile.{Profile}
use Rattle.ndef_format.specs.declared.profile.Profile.TheVariants.{Strict, Standard}
use Rattle.ndef_format.specs.declared.tnf.Tnf.{Tnf}
use Rattle.ndef_format.specs.declared.refusal.Refusal.{Refusal}

-- ---- messages and their spellings

-- Bytes that begin with the spelling of a message spell no other message, nor that one and more, whoever reads them.
abbrev pub OneMeaning : Type 0
OneMeaning = (p q : Profile) (m n : List Item) (front whole rest : List ℕ)
    → Spells p m front → Spells q n whole → whole ≡ front ++ rest → (m ≡ n) × (rest ≡ [])

-- A message that a strict reader takes is the same message for each reader.
abbrev pub StrictIsRead : Type 0
StrictIsRead = (profile : Profile) (m : List Item) (bytes : List ℕ) → Spells Strict m bytes → Spells profile m bytes

-- The canonical spelling of some records is one, and each of its runs is one piece.
abbrev pub CanonicalSpells : Type 0
CanonicalSpells = (profile : Profile) (m : List Item) → m ≢ [] → AllByRecursion IsItem m
    → SpellsBy profile (map (λ p. record { initial = p; later = [] }) (whole_pieces true m)) m (canonical m)

-- A message within the limits is at most as long as they allow.
abbrev pub MessagesAreBounded : Type 0
MessagesAreBounded = (limits : LimitValues) (runs : List Run) (m : List Item) (bytes : List ℕ)
    → SpellsBy limits.profile runs m bytes → IsWithin limits runs → length bytes ≤ greatest_length limits

-- ---- lengths and limits

-- No spelling of a message is shorter than the canonical one.
abbrev pub CanonicalIsShortest : Type 0
CanonicalIsShortest = (profile : Profile) (m : List Item) (bytes : List ℕ)
    → Spells profile m bytes → length (canonical m) ≤ length bytes

-- A message that is accepted is accepted in the canonical spelling too, as the same message.
abbrev pub CanonicalIsAccepted : Sets → Type 0
CanonicalIsAccepted set = (limits : LimitValues) (m : List Item) (bytes : List ℕ) → AreInRange limits
    → Accepted set limits m bytes → Accepted set limits m (canonical m)

-- the second profile is no stricter than the first
abbrev pub IsNoStricter : Profile → Profile → Type 0
IsNoStricter Strict other = ⊤
IsNoStricter Standard other = other ≡ Standard

-- no limit of the second is below that of the first, and its profile is no stricter
pub record AreWider (limits wider : LimitValues) : Type 0 where
  pub payload : limits.payload ≤ wider.payload
  pub records : limits.records ≤ wider.records
  pub pieces : limits.pieces ≤ wider.pieces
  pub profile : IsNoStricter limits.profile wider.profile

-- A payload of a kind is one too where a message may have more records and the profile is no stricter.
abbrev pub PayloadsStay : KindSets → Type 0
PayloadsStay set = (kind : Kind) (records more : ℕ) (profile other : Profile) (payload : List ℕ) → records ≤ more
    → IsNoStricter profile other → set kind records profile payload → set kind more other payload

-- A payload of a type is one too, likewise.
abbrev pub TypesStay : Sets → Type 0
TypesStay set = (tnf : Tnf) (name : List ℕ) (records more : ℕ) (profile other : Profile) (payload : List ℕ)
    → records ≤ more → IsNoStricter profile other → set tnf name records profile payload
    → set tnf name more other payload

-- A type has a name that none of the types with payloads of their own has: it is empty, or has a 0 octet.
abbrev pub IsNoName : List ℕ → Type 0
IsNoName name = (name ≡ []) ⊎ ((front rest : List ℕ) × (name ≡ front ++ 0 ∷ rest))

-- A message that is accepted is accepted within wider limits, as the same message.
abbrev pub WiderAccept : Sets → Type 0
WiderAccept set = (limits wider : LimitValues) (m : List Item) (bytes : List ℕ)
    → AreWider limits wider → Accepted set limits m bytes → Accepted set wider m bytes

-- For any limits, some message within them has the greatest length.
abbrev pub GreatestIsReached : Sets → Type 0
GreatestIsReached set = (limits : LimitValues) → AreInRange limits
    → (m : List Item) × (bytes : List ℕ) × Accepted set limits m bytes × (length bytes ≡ greatest_length limits)

-- ---- refusals

-- There is at most one place.
abbrev pub OnePlace : Sets → Type 0
OnePlace set = (limits : LimitValues) (bytes : List ℕ) (p q : ℕ)
    → IsPlace set limits bytes p → IsPlace set limits bytes q → p ≡ q

-- If there is a place, no bytes at the front are a message.
abbrev pub NoPrefixIsAccepted : Sets → Type 0
NoPrefixIsAccepted set = (limits : LimitValues) (bytes : List ℕ) (place count : ℕ)
    → IsPlace set limits bytes place → ¬ IsAccepted set limits (take count bytes)

-- Bytes are refused at one place, for one reason.
abbrev pub OneRefusal : Sets → Conditions → Type 0
OneRefusal set holds = (limits : LimitValues) (bytes : List ℕ) (refusal other : Refusal)
    → Refuses set holds limits bytes refusal → Refuses set holds limits bytes other → refusal ≡ other

-- A refusal, and its reason, follow from the bytes up to the refused one, whatever follows it.
abbrev pub RefusalsAreLocal : Sets → Conditions → Type 0
RefusalsAreLocal set holds = (limits : LimitValues) (bytes other : List ℕ) (refusal : Refusal)
    → refusal.at < length bytes → refusal.at < length other → take (refusal.at + 1) bytes ≡ take (refusal.at + 1) other
    → Refuses set holds limits bytes refusal → Refuses set holds limits other refusal
