-- The kinds of payload that the types of records name.
use Rattle.std.specs.Prelude.{◌≡◌, ℕ, ◌==◌, List, ◌∷◌, ◌++◌, length, if◌then◌else◌}
use Rattle.ndef_format.specs.declared.kind.Kind.{Kind}
use Rattle.ndef_format.specs.declared.kind.Kind.TheVariants.{Other}
use Rattle.ndef_lang.specs.declared.kind.Front.{Front}
use Rattle.ndef_lang.specs.declared.kind.Front.TheVariants as fronts
use Rattle.ndef_lang.specs.declared.kind.KindReader.{KindReader}
use Rattle.ndef_format.specs.Kinds.{names, named}

-- ---- a name that is half read

-- the kind of the name that begins so and goes on by these octets
abbrev pub continued : Front → List ℕ → Kind
continued fronts.Nothing more = named names more
continued (fronts.One a) more = named names (a ∷ more)
continued (fronts.Two a b) more = named names (a ∷ b ∷ more)
continued (fronts.Three a b c) more = named names (a ∷ b ∷ c ∷ more)
continued fronts.Unknown more = Other

-- the number of octets that the name still lacks
abbrev pub missing_of : KindReader → ℕ
missing_of reader = reader.missing

-- which octets of it have come
abbrev pub front_of : KindReader → Front
front_of reader = reader.front

-- the kind of the name, if just these octets are missing of it; else Other
abbrev pub kind_after : KindReader → List ℕ → Kind
kind_after reader more = if length more == missing_of reader then continued (front_of reader) more else Other

-- ---- laws

-- A half-read name that still expects a 0 octet is of no kind.
abbrev pub ZerosAreOther : Type 0
ZerosAreOther = (reader : KindReader) (front back : List ℕ) → kind_after reader (front ++ 0 ∷ back) ≡ Other
