-- Records, in one piece or several, and their octets (NFC Forum, NDEF 1.0, record layout and
-- chunked payloads).
use Rattle.std.specs.Prelude.{ℕ, ◌==◌, if◌then◌else◌, ◌<◌, ◌≡◌, Bool, Option, true, false, ◌+◌, ◌*◌, List, [], ◌∷◌, Some, None, ◌++◌, is_some, ⊤, ◌^◌, length, unwrap_or, ◌≢◌}
use Rattle.std.specs.Int.{w32, to_be_bytes}
use Rattle.std.specs.List.{AllByRecursion}
use Rattle.std.specs.Option.{option_map}
use Rattle.ndef_format.specs.declared.tnf.Tnf.{Tnf}
use Rattle.ndef_format.specs.declared.tnf.Tnf.TheVariants.{Empty, WellKnown, Media, AbsoluteUri, External, Unknown, Unchanged}
use Rattle.ndef_format.specs.declared.profile.Profile.{Profile}
use Rattle.ndef_format.specs.declared.profile.Profile.TheVariants.{Strict, Standard}

-- ---- type name formats

-- NDEF 1.0, TNF: the numbers of the type name formats
abbrev pub code : Tnf → ℕ
code Empty = 0
code WellKnown = 1
code Media = 2
code AbsoluteUri = 3
code External = 4
code Unknown = 5
code Unchanged = 6

-- NDEF 1.0, TNF: the type name format of a number; the reserved 7 is read as Unknown
abbrev pub tnf_of : ℕ → Tnf
tnf_of n =
    if n == 0 then Empty
    else (if n == 1 then WellKnown
    else (if n == 2 then Media
    else (if n == 3 then AbsoluteUri
    else (if n == 4 then External
    else (if n == 6 then Unchanged else Unknown)))))

-- NDEF 1.0, TNF: the numbers that are read; a strict reader refuses the reserved 7, though
-- by the standard readers should treat it as Unknown
abbrev pub IsRead : Profile → ℕ → Type 0
IsRead Strict n = n < 7
IsRead Standard n = n < 8

-- NDEF 1.0, TNF: an empty record has no type, id or payload, an unknown type is not written, nor
-- one that is unchanged; that any other has an octet is our choice
abbrev pub HasShape : Tnf → (kind id payload : ℕ) → Type 0
HasShape Empty kind id payload = (kind ≡ 0) × (id ≡ 0) × (payload ≡ 0)
HasShape Unknown kind id payload = kind ≡ 0
HasShape Unchanged kind id payload = kind ≡ 0
HasShape _ kind id payload = 0 < kind

-- ---- heads

-- NDEF 1.0, record layout: the fields in the octets before TYPE
pub record HeadFields : Type 0 where
  pub first : Bool
  pub last : Bool
  pub chunked : Bool
  pub short : Bool
  pub tnf : ℕ
  pub kind_length : ℕ
  pub payload_length : ℕ
  pub id_length : Option ℕ

-- NDEF 1.0, record layout: a flag, as a bit
abbrev pub bit : Bool → ℕ
bit false = 0
bit true = 1

-- NDEF 1.0, record layout: MB, ME, CF, SR, IL in bits 7 to 3, the type name format in bits 2 to 0
abbrev pub header_octet : (first last chunked short id_there : Bool) → ℕ → ℕ
header_octet first last chunked short id_there tnf =
    128 * bit first + 64 * bit last + 32 * bit chunked + 16 * bit short + 8 * bit id_there + tnf

-- NDEF 1.0, PAYLOAD_LENGTH: one octet in a short record, else four, most significant first
abbrev pub payload_length_octets : Bool → ℕ → List ℕ
payload_length_octets true n = n ∷ []
payload_length_octets false n = to_be_bytes w32 n

-- NDEF 1.0, ID_LENGTH: one octet, there exactly if the record has an id
abbrev pub id_length_octets : Option ℕ → List ℕ
id_length_octets None = []
id_length_octets (Some n) = n ∷ []

-- NDEF 1.0, record layout: the octets before TYPE
abbrev pub octets : HeadFields → List ℕ
octets f =
    header_octet f.first f.last f.chunked f.short (is_some f.id_length) f.tnf ∷ f.kind_length
    ∷ (payload_length_octets f.short f.payload_length ++ id_length_octets f.id_length)

-- NDEF 1.0, PAYLOAD_LENGTH: a short record has at most 255 octets of payload
abbrev pub FitsForm : Bool → ℕ → Type 0
FitsForm true n = n < 256
FitsForm false n = ⊤

-- ---- pieces

-- one physical record
pub record Piece : Type 0 where
  pub first : Bool
  pub last : Bool
  pub chunked : Bool
  pub tnf : ℕ
  pub kind : List ℕ
  pub id : Option (List ℕ)
  pub payload : List ℕ

-- numbers of 8 bits
abbrev pub AreOctets : List ℕ → Type 0
AreOctets = AllByRecursion (λ b. b < 256)

-- its parts are octets, as many as its head can count
pub record IsPiece (p : Piece) : Type 0 where
  pub tnf : p.tnf < 8
  pub kind : AreOctets p.kind
  pub kind_length : length p.kind < 256
  pub id : AreOctets (unwrap_or p.id [])
  pub id_length : length (unwrap_or p.id []) < 256
  pub payload : AreOctets p.payload
  pub payload_length : length p.payload < 2 ^ 32

-- the fields of a piece, in the short form or the long
abbrev pub fields : Piece → Bool → HeadFields
fields p short = record {
  first = p.first;
  last = p.last;
  chunked = p.chunked;
  short = short;
  tnf = p.tnf;
  kind_length = length p.kind;
  payload_length = length p.payload;
  id_length = option_map length p.id;
}

-- NDEF 1.0, record layout: TYPE, ID and PAYLOAD
abbrev pub body : Piece → List ℕ
body p = p.kind ++ (unwrap_or p.id [] ++ p.payload)

-- NDEF 1.0, record layout: the octets of a piece
pub record SpellsPiece (p : Piece) (short : Bool) (bytes : List ℕ) : Type 0 where
  pub piece : IsPiece p
  pub form : FitsForm short (length p.payload)
  pub spelled : bytes ≡ octets (fields p short) ++ body p

-- ---- runs

-- NDEF 1.0, chunked payloads: an initial piece, and middle and terminating pieces after it
pub record Run : Type 0 where
  pub initial : Piece
  pub later : List Piece

-- all of its pieces
abbrev pub pieces : Run → List Piece
pieces r = r.initial ∷ r.later

-- an initial piece, or a record in one piece
pub record IsInitial (profile : Profile) (p : Piece) : Type 0 where
  pub read : IsRead profile p.tnf
  pub changed : p.tnf ≢ 6
  -- an empty record is not chunked, which is our choice
  pub not_empty : p.chunked ≡ true → p.tnf ≢ 0

-- a middle or terminating piece: unchanged, without type and id
pub record IsLater (p : Piece) : Type 0 where
  pub tnf : p.tnf ≡ 6
  pub kind : p.kind ≡ []
  pub id : p.id ≡ None

-- what follows a piece: none where its CF is clear, else middle pieces with CF and a terminating
-- piece without
abbrev pub Follow : Bool → List Piece → Type 0
Follow chunked [] = chunked ≡ false
Follow chunked (p ∷ ps) = (chunked ≡ true) × IsLater p × Follow p.chunked ps

-- NDEF 1.0, chunked payloads: an initial piece, and the rest after it
pub record IsRun (profile : Profile) (r : Run) : Type 0 where
  pub initial : IsInitial profile r.initial
  pub follow : Follow r.initial.chunked r.later
