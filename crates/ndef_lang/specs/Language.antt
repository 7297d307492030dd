-- The laws of a payload language.
use Rattle.std.specs.Prelude.{ℕ, ◌+◌, ◌-◌, ◌<◌, ◌≤◌, List, ◌++◌, length, take, slice_index, ◌↔◌}
use Rattle.ndef_format.specs.Records.{AreOctets}
use Rattle.ndef_format.specs.declared.profile.Profile.{Profile}
use Rattle.ndef_format.specs.declared.reason.Reason.{Reason}
use Rattle.ndef_format.specs.declared.kind.Kind.{Kind}
use Rattle.ndef_format.specs.Payloads.{KindSets}
use Rattle.ndef_format.specs.Reasons.{KindConditions, IsLowest}
use Rattle.ndef_format.specs.PayloadReasons.{Passes}

-- some list of lo to hi octets passes
pub record PassesBetween (future : List ℕ → Type 0) (lo hi : ℕ) : Type 0 where
  pub rest : List ℕ
  pub passed : future rest
  pub least : lo ≤ length rest
  pub most : length rest ≤ hi

-- the new future passes exactly what the old one passes after these octets
abbrev pub Continues : (old new : List ℕ → Type 0) → List ℕ → Type 0
Continues old new octets = (r : List ℕ) → new r ↔ old (octets ++ r)

-- what was reached by a list is reached by it and these octets
abbrev pub Reaches : (old new : List ℕ → Type 0) → List ℕ → Type 0
Reaches old new octets = (s : List ℕ) → old s → new (s ++ octets)

-- what passes after these octets
abbrev pub After : (List ℕ → Type 0) → List ℕ → List ℕ → Type 0
After future octets r = future (octets ++ r)

-- The first `count` of these octets were stepped, and one more where that isn't all of them. Before
-- them some list of lo to hi octets passed; after `count` of them one of what is left still does,
-- and so after fewer. After one more none does.
pub record StepsAll (old new : List ℕ → Type 0) (bytes : List ℕ) (lo hi count : ℕ) : Type 0 where
  pub within : count ≤ length bytes
  pub stepped : Continues old new (take (count + 1) bytes)
  pub fits : PassesBetween (After old (take count bytes)) (lo - count) (hi - count)
  pub refused : count < length bytes → PassesBetween new (lo - (count + 1)) (hi - (count + 1)) → ⊥

-- The first `count` of these octets were stepped; where some list passed before them, one of what
-- is left of its length passes after them.
pub record StepsFront (old new : List ℕ → Type 0) (bytes : List ℕ) (count : ℕ) : Type 0 where
  pub within : count ≤ length bytes
  pub stepped : Continues old new (take count bytes)
  pub fits : (lo hi : ℕ) → count ≤ lo → PassesBetween old lo hi
      → PassesBetween new (lo - count) (hi - count)

-- The octets lead on, for any kind, number of records and profile.
abbrev pub ReachesEach : (old new : KindSets) → List ℕ → Type 0
ReachesEach old new octets = (kind : Kind) (records : ℕ) (profile : Profile)
    → Reaches (old kind records profile) (new kind records profile) octets

-- any octets pass
abbrev pub AllPass : (List ℕ → Type 0) → Type 0
AllPass future = (r : List ℕ) → AreOctets r → future r

-- A state that was reached is reached again after any octets, for any kind, any number of records and
-- any profile.
abbrev pub AllReach : KindSets → Type 0
AllReach reached = (octets : List ℕ) → AreOctets octets → ReachesEach reached reached octets

-- For any octets that were reached, after which something could still follow: the reason is that of the
-- octet that follows them.
abbrev pub TellsWhy : (reached future : List ℕ → Type 0) → (holds : List ℕ → ℕ → Reason → Type 0)
    → (octet : ℕ) → Reason
    → Type 0
TellsWhy reached future holds octet reason =
    (s : List ℕ) → reached s → Passes future → IsLowest (holds s octet) reason

-- For any octets that were reached: the reason is that of the octet at this place of those that came
-- after them.
abbrev pub TellsWhyAt : (reached : List ℕ → Type 0) → (holds : List ℕ → ℕ → Reason → Type 0)
    → (octets : List ℕ)
    → (place : ℕ) → Reason → Type 0
TellsWhyAt reached holds octets place reason = (s : List ℕ) → reached s
    → IsLowest (holds (s ++ take place octets) (slice_index octets place)) reason

-- the payloads of each kind are the same
abbrev pub SameSets : (set other : KindSets) → Type 0
SameSets set other =
    (kind : Kind) (records : ℕ) (profile : Profile) (s : List ℕ) → set kind records profile s
    ↔ other kind records profile s

-- the same reasons hold of each octet
abbrev pub SameConditions : (holds other : KindConditions) → Type 0
SameConditions holds other =
    (kind : Kind) (records : ℕ) (profile : Profile) (s : List ℕ) (b : ℕ) (reason : Reason)
    → holds kind records profile s b reason ↔ other kind records profile s b reason

-- these are the sets, for any number of records
abbrev pub AreSets : KindSets → (Kind → Profile → List ℕ → Type 0) → Type 0
AreSets set payloads = SameSets set (λ kind records. payloads kind)

-- these are the conditions, for any number of records
abbrev pub AreConditions : KindConditions → (Kind → Profile → List ℕ → ℕ → Reason → Type 0) → Type 0
AreConditions holds conditions = SameConditions holds (λ kind records. conditions kind)
