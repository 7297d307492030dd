-- The reasons for a refusal: their numbers, their names, and which of those that hold is given.
use Rattle.std.specs.Prelude.{ℕ, List, codes, ◌≡◌, ◌≤◌, ◌⊎◌}
use Rattle.ndef_format.specs.declared.reason.Reason.{Reason}
use Rattle.ndef_format.specs.declared.reason.Reason.TheVariants.{ReservedTnf, BeginMissing, BeginAgain, UnchangedOutside, ChangedInside, IdInside, ChunkAtEnd, ChunkOfEmpty, TooManyPieces, TooManyRecords, TypeNotEmpty, TypeEmpty, EmptyNotEmpty, PayloadTooLarge, TextBit, Language, Utf8, Utf16, UriCode, UriMissing, UriAgain, Version, CollisionMissing, DoesNotFit, EndOfInput}
use Rattle.ndef_format.specs.declared.profile.Profile.{Profile}
use Rattle.ndef_format.specs.Kinds.{kind_of}
use Rattle.ndef_format.specs.declared.kind.Kind.{Kind}
use Rattle.ndef_format.specs.declared.tnf.Tnf.{Tnf}

-- the number by which a reason is printed
abbrev pub reason_number : Reason → ℕ
reason_number ReservedTnf = 1
reason_number BeginMissing = 2
reason_number BeginAgain = 3
reason_number UnchangedOutside = 4
reason_number ChangedInside = 5
reason_number IdInside = 6
reason_number ChunkAtEnd = 7
reason_number ChunkOfEmpty = 8
reason_number TooManyPieces = 9
reason_number TooManyRecords = 10
reason_number TypeNotEmpty = 11
reason_number TypeEmpty = 12
reason_number EmptyNotEmpty = 13
reason_number PayloadTooLarge = 14
reason_number TextBit = 15
reason_number Language = 16
reason_number Utf8 = 17
reason_number Utf16 = 18
reason_number UriCode = 19
reason_number UriMissing = 20
reason_number UriAgain = 21
reason_number Version = 22
reason_number DoesNotFit = 23
reason_number EndOfInput = 24
reason_number CollisionMissing = 25

-- the place of a reason among those that are tried: 1 to 22, then the missing collision record,
-- then what doesn't fit
abbrev pub rank_of : Reason → ℕ
rank_of CollisionMissing = 23
rank_of DoesNotFit = 24
rank_of EndOfInput = 25
rank_of reason = reason_number reason

-- the name by which a reason is printed
abbrev pub reason_name : Reason → List ℕ
reason_name ReservedTnf = codes "ReservedTnf"
reason_name BeginMissing = codes "BeginMissing"
reason_name BeginAgain = codes "BeginAgain"
reason_name UnchangedOutside = codes "UnchangedOutside"
reason_name ChangedInside = codes "ChangedInside"
reason_name IdInside = codes "IdInside"
reason_name ChunkAtEnd = codes "ChunkAtEnd"
reason_name ChunkOfEmpty = codes "ChunkOfEmpty"
reason_name TooManyPieces = codes "TooManyPieces"
reason_name TooManyRecords = codes "TooManyRecords"
reason_name TypeNotEmpty = codes "TypeNotEmpty"
reason_name TypeEmpty = codes "TypeEmpty"
reason_name EmptyNotEmpty = codes "EmptyNotEmpty"
reason_name PayloadTooLarge = codes "PayloadTooLarge"
reason_name TextBit = codes "TextBit"
reason_name Language = codes "Language"
reason_name Utf8 = codes "Utf8"
reason_name Utf16 = codes "Utf16"
reason_name UriCode = codes "UriCode"
reason_name UriMissing = codes "UriMissing"
reason_name UriAgain = codes "UriAgain"
reason_name Version = codes "Version"
reason_name CollisionMissing = codes "CollisionMissing"
reason_name DoesNotFit = codes "DoesNotFit"
reason_name EndOfInput = codes "EndOfInput"

-- ---- law

-- No two reasons have one rank.
abbrev pub RanksAreApart : Type 0
RanksAreApart = (reason other : Reason) → rank_of reason ≡ rank_of other → reason ≡ other

-- which reasons hold of an octet after the octets of a payload before it
abbrev pub Conditions : Type 1
Conditions = Tnf → List ℕ → ℕ → Profile → List ℕ → ℕ → Reason → Type 0

-- those of the payloads of each kind
abbrev pub KindConditions : Type 1
KindConditions = Kind → ℕ → Profile → List ℕ → ℕ → Reason → Type 0

-- those of the types, by their kinds
abbrev pub reasons_by_kind : KindConditions → Conditions
reasons_by_kind holds tnf name = holds (kind_of tnf name)

-- of the reasons that hold the one that is tried first
pub record IsLowest (holds : Reason → Type 0) (reason : Reason) : Type 0 where
  pub it : holds reason
  pub first : (other : Reason) → holds other → rank_of reason ≤ rank_of other

-- where one condition applies: its reason holds where it does, and always that nothing fits
abbrev pub OneReason : Reason → Type 0 → Reason → Type 0
OneReason reason condition other = ((other ≡ reason) × condition) ⊎ (other ≡ DoesNotFit)

-- where no condition applies
abbrev pub NoReason : Reason → Type 0
NoReason other = other ≡ DoesNotFit
