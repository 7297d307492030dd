-- The sentences about the sizes of records are true.
use Rattle.std.proofs.Common.{◌≡◌, ◌≢◌, ℕ, ◌+◌, ◌-◌, ◌<◌, ◌≤◌, ◌==◌, Bool, true, false, List, [], ◌∷◌, ◌++◌, length, refl, sym, ◌∙◌, ap, subst, arith, length-append, le-ltb, inl, inr}
use Rattle.std.specs.Prelude.{if◌then◌else◌, not, ◌&&◌, ◌||◌, nat_lt, slice_index}
use Rattle.std.proofs.lemmas.Bool.{eq-eqb, leb-true}
use Rattle.std.proofs.lemmas.List.{append-nil}
use Rattle.ndef_format.specs.HeadReasons.{is_set, tnf_number, width}
use Rattle.ndef_format.specs.Messages.{EndsOnce, SpellsPieces}
use Rattle.ndef_format.specs.Records.{HasShape, Piece, SpellsPiece, tnf_of}
use Rattle.ndef_format.specs.declared.tnf.Tnf.{Tnf}
use Rattle.ndef_piece.specs.HeaderLaws.{id_count}
use Rattle.ndef_diagnostics.specs.Begun.{before_payload, has_kind, head_length, id_length, is_empty_record, is_length_whole, is_lengths_whole, is_size_known, kind_to_come, least_record, payload_length}
use Rattle.ndef_diagnostics.specs.PosterHeads.{before_uri, has_no_payload, least_uri, may_be_uri, of_last_uri, of_rest}
use Rattle.ndef_diagnostics.specs.Truths.{CollisionsDoNotFit, HasUri, IsShapedPiece, IsUriPiece, LeastRecordsHold, MissingIsTrue, RecordsDoNotFit, UrisDoNotFit}
use Rattle.ndef_diagnostics.specs.Expectations.{of_size}
use Rattle.ndef_diagnostics.specs.declared.expected.Expected.{Expected}
use Rattle.ndef_diagnostics.specs.declared.expected.Expected.TheVariants.{CollisionLength, Nothing}
use Rattle.ndef_diagnostics.proofs.PieceFronts.{FrontTells, front_size, front_tells, head_of, id_of}

-- ---- one record

least_most : (p : Piece) (short : Bool) (s front : List ℕ) → FrontTells p short s
    → length front ≡ head_of p short + length p.kind + id_of p short + length p.payload → least_record s ≤ length front
least_most p short s front f e = omega (arith, f.head, f.kind, f.id, f.payload, e)

head_some : (p : Piece) (short : Bool) → 2 ≤ head_of p short
head_some p short = omega arith

head_long : (p : Piece) (short : Bool) → 3 ≤ head_of p short
head_long p short = grind arith

least_whole : (p : Piece) (short : Bool) (s front : List ℕ) → FrontTells p short s
    → length front ≡ head_of p short + length p.kind + id_of p short + length p.payload → is_lengths_whole s ≡ true
    → least_record s ≡ length front
least_whole p short s front f e w =
    let l = leb-true (head_length s) (length s) w in
    let k = f.whole_kind (omega (arith, l, f.head, head_some p short)) in
    omega (arith, f.head, k, f.whole_id l, f.whole_payload (omega (arith, l)), e)

-- ---- the shape of a record

shaped_kind : (t : Tnf) (k i p : ℕ) → HasShape t k i p → has_kind t ≡ true → 1 ≤ k
shaped_kind t k i p h e = grind arith

shaped_empty : (t : Tnf) (k i p : ℕ) → HasShape t k i p → is_empty_record t ≡ true → (k ≡ 0) × (i ≡ 0) × (p ≡ 0)
shaped_empty t k i p h e = grind arith

to_come : (b : Bool) (k : ℕ) → (b ≡ true → 1 ≤ k) → (if b then 1 else 0) ≤ k
to_come b k f = grind arith

kind_least : (p : Piece) (short : Bool) (s : List ℕ) → FrontTells p short s → IsShapedPiece p
    → slice_index s 1 + kind_to_come s ≤ length p.kind
kind_least p short [] t h = omega (arith, t.kind)
kind_least p short (b ∷ []) t h =
    let needs : has_kind (tnf_of (tnf_number b)) ≡ true → 1 ≤ length p.kind =
    λ e. shaped_kind (tnf_of p.tnf) _ _ _ h (subst (λ n. has_kind (tnf_of n) ≡ true) t.tnf e) in
    omega (arith, to_come (has_kind (tnf_of (tnf_number b))) (length p.kind) needs)
kind_least p short (b ∷ c ∷ s) t h = omega (arith, t.kind)

shaped_most : (p : Piece) (short : Bool) (s front : List ℕ) → FrontTells p short s → IsShapedPiece p
    → length front ≡ head_of p short + length p.kind + id_of p short + length p.payload
    → least_record s + kind_to_come s ≤ length front
shaped_most p short s front f h e = omega (arith, f.head, kind_least p short s f h, f.id, f.payload, e)

none_to_come : (s : List ℕ) → 2 ≤ length s → kind_to_come s ≡ 0
none_to_come s l = grind arith

-- the length of a record with this head is known
shaped_whole : (p : Piece) (short : Bool) (s front : List ℕ) → FrontTells p short s → IsShapedPiece p
    → length front ≡ head_of p short + length p.kind + id_of p short + length p.payload → is_size_known s ≡ true
    → (least_record s ≡ length front) × (kind_to_come s ≡ 0)
shaped_whole p short s front f h e = by_whole (is_lengths_whole s) refl
  where
    by_whole : (whole : Bool) → is_lengths_whole s ≡ whole
        → (whole || is_empty_record (tnf_of (tnf_number (slice_index s 0)))) ≡ true
        → (least_record s ≡ length front) × (kind_to_come s ≡ 0)
    by_whole true w k =
        let l = leb-true (head_length s) (length s) w in
        (least_whole p short s front f e w, none_to_come s (omega (arith, l, f.head, head_some p short)))
    by_whole false w k =
        let z = shaped_empty (tnf_of p.tnf) _ _ _ h (subst (λ n. is_empty_record (tnf_of n) ≡ true) f.tnf k) in
        let n = kind_least p short s f h in
        let d : id_of p short ≡ 0 = id_count p.id ∙ z.1 in
        (omega (arith, f.head, n, f.id, f.payload, e, d, z.0, z.2), omega (arith, n, z.0))

pub least_records : LeastRecordsHold
least_records p short s more l i =
    let f = front_tells p short s more (s ++ more) [] l i (sym (append-nil (s ++ more))) in
    let e = front_size p short (s ++ more) i.spelled in
    (least_most p short s (s ++ more) f e, least_whole p short s (s ++ more) f e)

-- ---- records that fill a payload

-- the first of some records, and whether more come after it
record Filled (p : Piece) (ps : List Piece) (short : Bool) (left : ℕ) (s : List ℕ) : Type 0 where
  front : List ℕ
  tells : FrontTells p short s
  size : length front ≡ head_of p short + length p.kind + id_of p short + length p.payload
  fits : length front ≤ left
  last : p.last ≡ true → length front ≡ left
  others : p.last ≡ false → length front + 3 ≤ left
  own : p.last ≡ true → HasUri (p ∷ ps) → IsUriPiece p
  follow : HasUri ps → length front + 5 ≤ left

piece_long : (p : Piece) (short : Bool) (front : List ℕ) → SpellsPiece p short front → 3 ≤ length front
piece_long p true front i = omega (arith, front_size p true front i.spelled)
piece_long p false front i = omega (arith, front_size p false front i.spelled)

-- a URI has at least five octets
uri_long : (ps : List Piece) (bytes : List ℕ) → SpellsPieces ps bytes → HasUri ps → 5 ≤ length bytes
uri_long [] bytes i h = absurd h
uri_long (p ∷ ps) bytes (short, front, rest, e, i, n) h = elim h [
  | inl u ↦ omega (arith, ap length e, length-append front rest, front_size p short front i.spelled, head_long p short, u.kind, u.payload)
  | inr v ↦ omega (arith, ap length e, length-append front rest, uri_long ps rest n v)
]

differ : {A : Type 0} → true ≡ false → A
differ e = cc

filled : (p : Piece) (ps : List Piece) (left : ℕ) (s more : List ℕ) → 0 < length s → SpellsPieces (p ∷ ps) (s ++ more)
    → EndsOnce (p ∷ ps) → length (s ++ more) ≡ left → (short : Bool) × Filled p ps short left s
filled p [] left s more l (short, front, rest, e, i, n) last len = (
  short,
  record {
    front = front;
    tells = front_tells p short s more front rest l i e;
    size = front_size p short front i.spelled;
    fits = omega (arith, ap length e, length-append front rest, len);
    last = λ h. omega (arith, ap length e, length-append front rest, ap length n, len);
    others = λ h. differ (sym last ∙ h);
    own = λ h u. elim u [ inl v ↦ v | inr v ↦ absurd v ];
    follow = λ h. absurd h;
  },
)
filled p (q ∷ ps) left s more l (short, front, rest, e, i, (form, next, later, d, j, n)) (ends, last) len = (
  short,
  record {
    front = front;
    tells = front_tells p short s more front rest l i e;
    size = front_size p short front i.spelled;
    fits = omega (arith, ap length e, length-append front rest, len);
    last = λ h. differ (sym h ∙ ends);
    others = λ h. omega (arith, ap length e, length-append front rest, ap length d, length-append next later, piece_long q form next j, len);
    own = λ h u. differ (sym h ∙ ends);
    follow = λ h. omega (arith, ap length e, length-append front rest, uri_long (q ∷ ps) rest (form, next, later, d, j, n) h, len);
  },
)

-- a record of at least a size, which is known or not
size_no : (collision known last : Bool) (size left total : ℕ) → of_size collision known last size left ≢ Nothing → size ≤ total → total ≤ left
    → (known ≡ true → size ≡ total) → (last ≡ true → total ≡ left) → (last ≡ false → total + 3 ≤ left) → ⊥
size_no collision known last size left total h most fits whole end more = grind arith

pub records_true : RecordsDoNotFit
records_true left s l h [] more i last shaped len = absurd last
records_true left s l h (p ∷ ps) more i last shaped len =
    let (short, k) = filled p ps left s more l i last len in
    let t = k.tells in
    let known : is_size_known s ≡ true → least_record s + kind_to_come s ≡ length k.front =
    λ w. (let q = shaped_whole p short s k.front t shaped.0 k.size w in omega (arith, q.0, q.1)) in
    size_no false (is_size_known s) (is_set 6 (slice_index s 0)) (least_record s + kind_to_come s) left (length k.front) h
    (shaped_most p short s k.front t shaped.0 k.size) k.fits known (λ b. k.last (sym t.last ∙ b))
    (λ b. k.others (sym t.last ∙ b))

-- ---- the URI of a poster

some_payload : (whole : Bool) (n : ℕ) → (whole ≡ true → 1 ≤ n) → (whole && (n == 0)) ≡ false
some_payload whole n f = grind arith

uri_payload : (p : Piece) (short : Bool) (s : List ℕ) → FrontTells p short s → IsUriPiece p → has_no_payload s ≡ false
uri_payload p short s t u = some_payload (is_length_whole s) (payload_length s)
    (λ w. omega (arith, t.whole_payload (leb-true (2 + width (slice_index s 0)) (length s) w), u.payload))

uri_kind : (p : Piece) (short : Bool) (s : List ℕ) → FrontTells p short s → IsUriPiece p
    → (nat_lt (length s) 2 || (slice_index s 1 == 1)) ≡ true
uri_kind p short s t u = let k = t.whole_kind in let e = u.kind in grind arith

uri_may : (p : Piece) (short : Bool) (s : List ℕ) → FrontTells p short s → IsUriPiece p → may_be_uri s ≡ true
uri_may p short s t u =
    rw (eq-eqb (tnf_number (slice_index s 0)) 1 (t.tnf ∙ u.tnf), uri_kind p short s t u, uri_payload p short s t u) refl

last_no : (p : Piece) (ps : List Piece) (short : Bool) (left : ℕ) (s : List ℕ) → Filled p ps short left s → IsUriPiece p
    → p.last ≡ true → of_last_uri left s ≡ Nothing
last_no p ps short left s k u e =
    let t = k.tells in
    let l : least_uri s ≤ left = omega (arith, t.head, t.id, t.payload, k.size, k.last e, u.kind, u.payload) in
    rw (uri_payload p short s t u, le-ltb left (least_uri s) l) refl

known_and : (known may : Bool) (w : Expected) → (if known && not may then w else Nothing) ≢ Nothing
    → (known ≡ true) × (may ≡ false)
known_and known may w h = grind arith

before_no : (p : Piece) (ps : List Piece) (short : Bool) (left : ℕ) (s : List ℕ) → Filled p ps short left s
    → IsShapedPiece p → HasUri (p ∷ ps) → before_uri left s ≢ Nothing → ⊥
before_no p ps short left s k shaped uri h =
    let t = k.tells in
    let c = known_and (is_size_known s) (may_be_uri s) (of_rest left (least_record s)) h in
    let size = shaped_whole p short s k.front t shaped k.size c.0 in
    elim uri [
      | inl u ↦ differ (sym (uri_may p short s t u) ∙ c.1)
      | inr v ↦
          let far : 5 ≤ left - least_record s = (let m = k.follow v in omega (arith, m, size.0)) in
          h (rw (c.0, c.1, le-ltb (left - least_record s) 5 far) refl)
    ]

uri_no : (b : Bool) (p : Piece) (ps : List Piece) (short : Bool) (left : ℕ) (s : List ℕ) → Filled p ps short left s
    → p.last ≡ b → IsShapedPiece p → HasUri (p ∷ ps) → (if b then of_last_uri left s else before_uri left s) ≢ Nothing → ⊥
uri_no true p ps short left s k e shaped uri h = h (last_no p ps short left s k (k.own e uri) e)
uri_no false p ps short left s k e shaped uri h = before_no p ps short left s k shaped uri h

pub uris_true : UrisDoNotFit
uris_true left s l h [] more i last shaped uri len = absurd last
uris_true left s l h (p ∷ ps) more i last shaped uri len =
    let (short, k) = filled p ps left s more l i last len in
    uri_no (is_set 6 (slice_index s 0)) p ps short left s k (sym k.tells.last) shaped.0 uri h

-- ---- the collision record of a request

has_two : (whole : Bool) (given : ℕ) → (whole ≡ true → given ≡ 2) → (whole && not (given == 2)) ≡ false
has_two whole given f = grind arith

id_known : (there whole : Bool) (n m : ℕ) → (there ≡ false → n ≡ m) → (whole ≡ true → n ≡ m) → (not there || whole) ≡ true → n ≡ m
id_known there whole n m f g h = grind arith

pub collisions_true : CollisionsDoNotFit
collisions_true left s l h [] more i last two len = absurd last
collisions_true left s l h (p ∷ ps) more i last two len =
    let (short, k) = filled p ps left s more l i last len in
    let t = k.tells in
    let there = is_set 3 (slice_index s 0) in
    let whole = is_lengths_whole s in
    let ends = is_set 6 (slice_index s 0) in
    let size = head_length s + 4 + id_length s in
    let known = not there || whole in
    let rest = of_size true known ends size left in
    let all : whole ≡ true → head_length s ≤ length s = leb-true (head_length s) (length s) in
    let length_whole = is_length_whole s in
    let payload : length_whole ≡ true → payload_length s ≡ 2 =
    λ w. t.whole_payload (leb-true (2 + width (slice_index s 0)) (length s) w) ∙ two.1 in
    let no : rest ≢ Nothing =
    subst (λ b. (if b then CollisionLength (payload_length s) else rest) ≢ Nothing) (has_two length_whole (payload_length s) payload) h in
    let id : known ≡ true → id_length s ≡ id_of p short =
    id_known there whole (id_length s) (id_of p short) t.no_id (λ w. t.whole_id (all w)) in
    size_no true known ends size left (length k.front) no (omega (arith, t.head, t.id, k.size, two.0, two.1)) k.fits
    (λ b. omega (arith, t.head, id b, k.size, two.0, two.1)) (λ b. k.last (sym t.last ∙ b)) (λ b. k.others (sym t.last ∙ b))

-- ---- octets that are missing

pub missing_true : MissingIsTrue
missing_true in_chunks short p [] more i = grind arith
missing_true in_chunks short p (h ∷ []) more i = omega (arith, piece_long p short (h ∷ more) i)
missing_true in_chunks short p (h ∷ k ∷ u) more i =
    let s = h ∷ k ∷ u in
    let t = front_tells p short s more (s ++ more) [] (omega arith) i (sym (append-nil (s ++ more))) in
    let e = front_size p short (s ++ more) i.spelled in
    let a = length-append s more in
    let kind = t.whole_kind (omega arith) in
    let lengths = 2 + width h in
    let head = head_length s in
    let before = before_payload s in
    let whole = t.whole_id in
    let all = t.whole_payload in
    let start = t.head in
    grind arith
