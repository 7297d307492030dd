-- The bytes of a message (NFC Forum, NDEF 1.0, messages and chunked payloads).
use Rattle.std.specs.Prelude.{ℕ, List, [], unwrap_or, ◌≢◌, length, ◌≡◌, true, false, ◌∷◌, map, Bool, ◌++◌}
use Rattle.std.specs.List.{flat_map, AllByRecursion}
use Rattle.ndef_format.specs.Records.{Piece, tnf_of, Run, pieces, HasShape, IsRun, SpellsPiece}
use Rattle.ndef_format.specs.declared.tnf.Tnf.{Tnf}
use Rattle.ndef_format.specs.declared.tnf.Tnf.TheVariants.{Unchanged}
use Rattle.ndef_format.specs.declared.profile.Profile.{Profile}

-- the meaning of a run
pub record Item : Type 0 where
  pub tnf : Tnf
  pub kind : List ℕ
  pub id : List ℕ
  pub payload : List ℕ

-- NDEF 1.0, chunked payloads: the payloads of the pieces, joined
abbrev pub payload_of : List Piece → List ℕ
payload_of = flat_map (λ p. p.payload)

-- NDEF 1.0, chunked payloads: the record that a run means
abbrev pub run_record : Run → Item
run_record r = record {
  tnf = tnf_of r.initial.tnf;
  kind = r.initial.kind;
  id = unwrap_or r.initial.id [];
  payload = payload_of (pieces r);
}

-- NDEF 1.0, TNF: the parts of a record go together
pub record IsShaped (m : Item) : Type 0 where
  pub changed : m.tnf ≢ Unchanged
  pub shape : HasShape m.tnf (length m.kind) (length m.id) (length m.payload)

-- NDEF 1.0, messages: MB in the first piece and in no other
abbrev pub BeginsOnce : List Piece → Type 0
BeginsOnce [] = ⊥
BeginsOnce (p ∷ ps) = (p.first ≡ true) × AllByRecursion (λ q. q.first ≡ false) ps

-- NDEF 1.0, messages: ME in the last piece and in no other
abbrev pub EndsOnce : List Piece → Type 0
EndsOnce [] = ⊥
EndsOnce (p ∷ []) = p.last ≡ true
EndsOnce (p ∷ q ∷ ps) = (p.last ≡ false) × EndsOnce (q ∷ ps)

-- the pieces of all runs
abbrev pub all_pieces : List Run → List Piece
all_pieces = flat_map pieces

-- NDEF 1.0, messages: these runs are a message of these items
pub record IsMessage (profile : Profile) (runs : List Run) (m : List Item) : Type 0 where
  pub each_run : AllByRecursion (IsRun profile) runs
  pub items : map run_record runs ≡ m
  pub shaped : AllByRecursion IsShaped m
  pub begins : BeginsOnce (all_pieces runs)
  pub ends : EndsOnce (all_pieces runs)

-- the spellings of the pieces, joined, each in a form of its own
abbrev pub SpellsPieces : List Piece → List ℕ → Type 0
SpellsPieces [] bytes = bytes ≡ []
SpellsPieces (p ∷ ps) bytes =
    (short : Bool) × (front rest : List ℕ) × (bytes ≡ front ++ rest) × SpellsPiece p short front
    × SpellsPieces ps rest

-- NDEF 1.0, messages: the bytes spell the items, as these runs
pub record SpellsBy (profile : Profile) (runs : List Run) (m : List Item) (bytes : List ℕ) : Type 0 where
  pub message : IsMessage profile runs m
  pub spelled : SpellsPieces (all_pieces runs) bytes

-- NDEF 1.0, messages: these bytes spell a message of these records
abbrev pub Spells : Profile → List Item → List ℕ → Type 0
Spells profile m bytes = (runs : List Run) × SpellsBy profile runs m bytes
