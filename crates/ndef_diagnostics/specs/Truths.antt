-- The sentences about payloads are true.
use Rattle.std.specs.Prelude.{◌≡◌, ◌≢◌, ℕ, ◌+◌, ◌<◌, ◌≤◌, ◌⊎◌, ⊤, Bool, true, List, [], ◌∷◌, ◌++◌, length, unwrap_or}
use Rattle.std.specs.List.{AllByRecursion}
use Rattle.ndef_format.specs.Messages.{EndsOnce, SpellsPieces}
use Rattle.ndef_format.specs.Nested.{IsNest, IsPayload, kind_in}
use Rattle.ndef_format.specs.NestedReasons.{MessageReason}
use Rattle.ndef_format.specs.Positions.{NoneLast}
use Rattle.ndef_format.specs.Records.{HasShape, Piece, SpellsPiece, tnf_of}
use Rattle.ndef_format.specs.declared.kind.Kind.{Kind}
use Rattle.ndef_format.specs.declared.kind.Kind.TheVariants as kinds
use Rattle.ndef_format.specs.declared.profile.Profile.{Profile}
use Rattle.ndef_format.specs.declared.profile.Profile.TheVariants.{Strict}
use Rattle.ndef_format.specs.declared.reason.Reason.TheVariants as reasons
use Rattle.ndef_format.specs.declared.table.Table.{Table}
use Rattle.ndef_format.specs.declared.table.Table.TheVariants as tables
use Rattle.ndef_lang.specs.Lengths.{HasLength}
use Rattle.ndef_lang.specs.Machine.Leaf.{leaf_lengths, leaf_of}
use Rattle.ndef_fields.specs.Refusals.{AreWholeBefore}
use Rattle.ndef_fields.specs.declared.name.FieldName.TheVariants as names
use Rattle.ndef_diagnostics.specs.Begun.{is_lengths_whole, least_record}
use Rattle.ndef_diagnostics.specs.LengthMismatches.{least_nest, length_mismatch}
use Rattle.ndef_diagnostics.specs.PosterHeads.{of_uri}
use Rattle.ndef_diagnostics.specs.Expectations.{missing, missing_after, of_collision, of_head}
use Rattle.ndef_diagnostics.specs.Wholes.{ends_in_chunk}
use Rattle.ndef_diagnostics.specs.declared.expected.Expected.{Expected}
use Rattle.ndef_diagnostics.specs.declared.expected.Expected.TheVariants as expected

-- Each payload of a kind has a length of the layout of that kind.
abbrev pub LengthsHold : Type 0
LengthsHold = (kind : Kind) (profile : Profile) (s : List ℕ)
    → IsPayload kind profile s → HasLength (leaf_lengths (leaf_of kind Strict)) (length s)

-- no payload of the kind with this length begins with these octets
abbrev pub NoneBegins : Kind → (given : ℕ) → List ℕ → Type 0
NoneBegins kind given front = (profile : Profile) (rest : List ℕ)
    → IsPayload kind profile (front ++ rest) → length (front ++ rest) ≢ given

-- If a sentence states a length or a number of a payload, no payload of its length begins with these octets.
abbrev pub LengthMismatchesAreTrue : Type 0
LengthMismatchesAreTrue = (kind : Kind) (given : ℕ) (front : List ℕ)
    → length_mismatch kind given front ≢ expected.Nothing
    → length_mismatch kind given front ≢ expected.WholeCharacter → NoneBegins kind given front

-- Each payload that holds a nested message has at least the least length of one.
abbrev pub LeastNestsHold : Type 0
LeastNestsHold = (table : Table) (records : ℕ) (profile : Profile) (s : List ℕ)
    → IsNest table records profile s → least_nest table ≤ length s

-- A select is its version alone, or has at least four octets.
abbrev pub SelectsAreOneOrFour : Type 0
SelectsAreOneOrFour = (records : ℕ) (profile : Profile) (s : List ℕ)
    → IsNest tables.Select records profile s → (length s ≡ 1) ⊎ (4 ≤ length s)

-- ---- records within a payload

-- Connection Handover 1.2, Collision Resolution record: the first of these pieces has its lengths
abbrev pub BeginsWithCollision : List Piece → Type 0
BeginsWithCollision [] = ⊥
BeginsWithCollision (p ∷ ps) = (length p.kind ≡ 2) × (length p.payload ≡ 2)

-- NDEF 1.0, record layout: each piece has at least the least length by its front, and has it if its lengths
-- have come
abbrev pub LeastRecordsHold : Type 0
LeastRecordsHold = (p : Piece) (short : Bool) (s more : List ℕ) → 0 < length s → SpellsPiece p short (s ++ more)
    → (least_record s ≤ length (s ++ more)) × (is_lengths_whole s ≡ true → least_record s ≡ length (s ++ more))

-- NDEF 1.0, TNF: a piece has the shape of its type name format
abbrev pub IsShapedPiece : Piece → Type 0
IsShapedPiece p = HasShape (tnf_of p.tnf) (length p.kind) (length (unwrap_or p.id [])) (length p.payload)

-- RTD URI 1.0, URI record: a piece has the lengths of one, and its type name format
pub record IsUriPiece (p : Piece) : Type 0 where
  pub tnf : p.tnf ≡ 1
  pub kind : length p.kind ≡ 1
  pub payload : 1 ≤ length p.payload

-- RTD Smart Poster 1.0, URI record: one of these pieces is one
abbrev pub HasUri : List Piece → Type 0
HasUri [] = ⊥
HasUri (p ∷ ps) = IsUriPiece p ⊎ HasUri ps

-- If a sentence states that a record doesn't fit a payload, no records that fill it begin with these octets.
abbrev pub RecordsDoNotFit : Type 0
RecordsDoNotFit = (left : ℕ) (s : List ℕ) → 0 < length s → of_head left s ≢ expected.Nothing
    → (ps : List Piece) (more : List ℕ) → SpellsPieces ps (s ++ more) → EndsOnce ps
    → AllByRecursion IsShapedPiece ps → length (s ++ more) ≢ left

-- If a sentence states that the URI of a poster doesn't fit, no records that fill the payload, and of which one is a
-- URI, begin with these octets.
abbrev pub UrisDoNotFit : Type 0
UrisDoNotFit = (left : ℕ) (s : List ℕ) → 0 < length s → of_uri left s ≢ expected.Nothing
    → (ps : List Piece) (more : List ℕ) → SpellsPieces ps (s ++ more) → EndsOnce ps
    → AllByRecursion IsShapedPiece ps → HasUri ps → length (s ++ more) ≢ left

-- If a sentence states that the collision record of a request doesn't fit, no records that fill the payload, and of
-- which the first has the lengths of one, begin with these octets.
abbrev pub CollisionsDoNotFit : Type 0
CollisionsDoNotFit = (left : ℕ) (s : List ℕ) → 0 < length s → of_collision left s ≢ expected.Nothing
    → (ps : List Piece) (more : List ℕ) → SpellsPieces ps (s ++ more)
    → EndsOnce ps → BeginsWithCollision ps → length (s ++ more) ≢ left

-- this number of octets may be missing by this expectation
abbrev pub IsMissing : Expected → ℕ → Type 0
IsMissing (expected.Missing names.Payload n) count = count ≡ n
IsMissing (expected.Missing name n) count = n ≤ count
IsMissing w count = ⊤

-- If a sentence states how many octets of a field are missing, each piece that begins with these octets has at least
-- that number of octets more; where they are missing of the payload, it has that number.
abbrev pub MissingIsTrue : Type 0
MissingIsTrue = (in_chunks short : Bool) (p : Piece) (s more : List ℕ) → SpellsPiece p short (s ++ more)
    → IsMissing (missing in_chunks s) (length more)

-- If a sentence states that the input has no bytes, it has none.
abbrev pub MessageIsMissing : Type 0
MessageIsMissing = (input s : List ℕ) (in_chunks : Bool)
    → missing_after input in_chunks s ≡ expected.Message → input ≡ []

-- NDEF 1.0, ME and CF: these pieces are followed by others of a message: ME is clear in each of them, and CF set in the
-- last of them, or clear
pub record AreFollowed (come ps : List Piece) (in_chunks : Bool) : Type 0 where
  pub none_last : NoneLast come
  pub chunk : ends_in_chunk come ≡ in_chunks
  pub others : List Piece
  pub follow : ps ≡ come ++ others
  pub some : others ≢ []

-- If a sentence states that another record is missing, or another chunk of the last one, each message that begins with
-- the input, and is longer, has another piece after the whole ones of the input, of which ME is set in none.
abbrev pub NextIsMissing : Expected → (in_chunks : Bool) → Type 0
NextIsMissing w in_chunks = (input s more : List ℕ) (whole : AreWholeBefore input s) (ps : List Piece)
    → missing_after input (ends_in_chunk whole.pieces) s ≡ w → SpellsPieces ps (input ++ more) → EndsOnce ps
    → 0 < length more → AreFollowed whole.pieces ps in_chunks

-- ---- records of a nested message

-- RTD Smart Poster 1.0 and Connection Handover 1.2: in this nested message a record with this piece isn't of the kind
abbrev pub IsOther : Table → Kind → Piece → Type 0
IsOther table kind p = kind_in table (tnf_of p.tnf) p.kind ≢ kind

-- If a sentence states that a record is the last of a poster, and none is a URI, so it is of all records that fill it.
abbrev pub UrisAreMissing : Type 0
UrisAreMissing = (records : ℕ) (profile : Profile) (s inner more : List ℕ) (b : ℕ) (whole : AreWholeBefore s inner)
    (ps : List Piece) → MessageReason tables.SmartPoster records profile s b reasons.UriMissing
    → SpellsPieces ps (s ++ b ∷ more) → EndsOnce ps
    → (length ps ≡ length whole.pieces + 1) × AllByRecursion (IsOther tables.SmartPoster kinds.Uri) ps

-- RTD Smart Poster 1.0: after pieces of which one is a URI comes one that is a URI
pub record IsUriAgainAfter (come ps : List Piece) : Type 0 where
  pub piece : Piece
  pub others : List Piece
  pub follow : ps ≡ come ++ piece ∷ others
  pub before : ¬ AllByRecursion (IsOther tables.SmartPoster kinds.Uri) come
  pub uri : kind_in tables.SmartPoster (tnf_of piece.tnf) piece.kind ≡ kinds.Uri

-- If a sentence states that a record of a poster is a second URI, it is one, and one of those before is.
abbrev pub UrisComeAgain : Type 0
UrisComeAgain = (records : ℕ) (profile : Profile) (s inner more : List ℕ) (b : ℕ) (whole : AreWholeBefore s inner)
    (ps : List Piece) → MessageReason tables.SmartPoster records profile s b reasons.UriAgain
    → SpellsPieces ps (s ++ b ∷ more) → IsUriAgainAfter whole.pieces ps

-- If a sentence states that the first record of a request isn't a collision record, it is another.
abbrev pub CollisionsAreMissing : Type 0
CollisionsAreMissing = (records : ℕ) (profile : Profile) (s more : List ℕ) (b : ℕ) (ps : List Piece)
    → MessageReason tables.Request records profile s b reasons.CollisionMissing → SpellsPieces ps (s ++ b ∷ more)
    → (p : Piece) × (others : List Piece) × (ps ≡ p ∷ others) × IsOther tables.Request kinds.Collision p
