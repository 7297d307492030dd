-- Record types of a program's own, beside those of another language.
use Rattle.std.specs.Prelude.{ℕ, Bool, true, false, List, [], ◌∷◌, ◌==◌, ◌&&◌, ◌≤◌, nat_lt, bytes_eq}
use Rattle.ndef_format.specs.declared.kind.Kind.TheVariants.{Other}
use Rattle.ndef_format.specs.declared.profile.Profile.{Profile}
use Rattle.ndef_format.specs.declared.tnf.Tnf.{Tnf}
use Rattle.ndef_format.specs.Laws.{IsNoStricter}
use Rattle.ndef_format.specs.Payloads.{KindSets, Sets}
use Rattle.ndef_format.specs.Reasons.{Conditions, KindConditions}
use Rattle.ndef_format.specs.Records.{code}

-- the first, or else the second
abbrev pub Chosen : Bool → Type 0 → Type 0 → Type 0
Chosen true own base = own
Chosen false own base = base

-- the payloads of the own types, and those of the others
abbrev pub own_sets : (Tnf → List ℕ → Bool) → KindSets → Sets → Sets
own_sets owned own base tnf name records profile s =
    Chosen (owned tnf name) (own Other records profile s) (base tnf name records profile s)

-- .. and their conditions
abbrev pub own_reasons : (Tnf → List ℕ → Bool) → KindConditions → Conditions → Conditions
own_reasons owned own base tnf name records profile s b reason =
    Chosen (owned tnf name) (own Other records profile s b reason) (base tnf name records profile s b reason)

-- nothing, of no kind or type
abbrev pub none_of_kind : KindSets
none_of_kind kind records profile s = ⊥

abbrev pub none_of_type : Sets
none_of_type tnf name records profile s = ⊥

-- A payload stays one where a message may have more records and the profile is no stricter.
abbrev pub OwnStay : KindSets → Type 0
OwnStay set = (records more : ℕ) (profile other : Profile) (payload : List ℕ) → records ≤ more
    → IsNoStricter profile other → set Other records profile payload → set Other more other payload

-- the type with this type name format and this name is that one
abbrev pub is_type : (own : Tnf) (own_name : List ℕ) → Tnf → List ℕ → Bool
is_type own own_name tnf name = (code own == code tnf) && bytes_eq own_name name

-- none is 0
abbrev pub are_some : List ℕ → Bool
are_some [] = true
are_some (b ∷ bs) = nat_lt 0 b && are_some bs

-- the name has an octet, and none is 0
abbrev pub is_name : List ℕ → Bool
is_name [] = false
is_name (b ∷ bs) = are_some (b ∷ bs)
