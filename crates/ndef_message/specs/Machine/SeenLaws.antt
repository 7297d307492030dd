-- The properties of pieces from the bytes that spell them.
use Rattle.std.proofs.Common.{◌≡◌, ℕ, zero, suc, ◌+◌, ◌-◌, ◌<◌, ◌^◌, Bool, true, false, refl, sym, ◌∙◌, ap, ap₂, arith, List, [], ◌∷◌, ◌++◌, length, length-append, take, drop, take_at, drop_at, append_assoc, Option, Some, None}
use Rattle.std.specs.Prelude.{unwrap_or, is_some}
use Rattle.std.specs.Option.{option_map}
use Rattle.std.specs.List.{AllByRecursion}
use Rattle.std.proofs.lemmas.Nat.{from_be_bytes-to_be_bytes_4}
use Rattle.ndef_value.specs.ListLaws.{cut_alike}
use Rattle.ndef_format.specs.Records.{HeadFields, Piece, SpellsPiece, Run, pieces, Follow, IsRun, fields, octets, body, payload_length_octets, id_length_octets}
use Rattle.ndef_format.specs.Messages.{SpellsPieces, all_pieces, SpellsBy, Item}
use Rattle.ndef_format.specs.declared.profile.Profile.{Profile}
use Rattle.ndef_format.specs.HeadReasons.{is_set}
use Rattle.ndef_piece.specs.Header.{size}
use Rattle.ndef_piece.specs.HeaderLaws.{header, header_parts, octets_size}
use Rattle.ndef_format.specs.Positions.{CanBeSpelled}
use Rattle.ndef_piece.specs.Whole.{IsSplit, BeginWithPiece}
use Rattle.ndef_message.specs.Machine.Points.{piece, id_of}
use Rattle.ndef_message.specs.Machine.Seen.{payload_length_at, id_length_at, fields_with, piece_with, piece_at, body_size, size_at, pieces_from, pieces_of, begin_run, runs_of, run_of, IsSeenRecord}
use Rattle.ndef_piece.specs.HeaderLaws.{id_count}

-- ---- the parts of a piece
-- the head of a piece
pub piece_head : (p : Piece) (short : Bool) (bytes : List ℕ) → SpellsPiece p short bytes → CanBeSpelled (fields p short)
piece_head p short bytes s = record {
  tnf = s.piece.tnf;
  kind = s.piece.kind_length;
  payload = s.piece.payload_length;
  form = s.form;
  id = rw (id_count p.id) s.piece.id_length;
}

pub body_length : (p : Piece) → length (body p) ≡ length p.kind + length (unwrap_or p.id []) + length p.payload
body_length p = omega (
  arith,
  length-append p.kind (unwrap_or p.id [] ++ p.payload),
  length-append (unwrap_or p.id []) p.payload,
)

-- ---- heads
payload_reported : (short : Bool) (n : ℕ) (o : Option ℕ) (h k : ℕ) (z : List ℕ) → n < 2 ^ 32
    → payload_length_at short ((h ∷ k ∷ (payload_length_octets short n ++ id_length_octets o)) ++ z) ≡ n
payload_reported true n o h k z l = refl
payload_reported false n o h k z l = from_be_bytes-to_be_bytes_4 n l

id_reported : (short : Bool) (n : ℕ) (o : Option ℕ) (h k : ℕ) (z : List ℕ)
    → id_length_at (is_some o) short ((h ∷ k ∷ (payload_length_octets short n ++ id_length_octets o)) ++ z) ≡ o
id_reported true n None h k z = refl
id_reported true n (Some d) h k z = refl
id_reported false n None h k z = refl
id_reported false n (Some d) h k z = refl

-- the octets of a head determine it, whatever follows
head_is_known : (f : HeadFields) (z : List ℕ) → CanBeSpelled f → fields_with (header f) (octets f ++ z) ≡ f
head_is_known f z l =
    let p = header_parts f l.tnf in
    let n : payload_length_at (is_set 4 (header f)) (octets f ++ z) ≡ f.payload_length =
    ap (λ s. payload_length_at s (octets f ++ z)) p.short
    ∙ payload_reported f.short f.payload_length f.id_length (header f) f.kind_length z l.payload in
    let i : id_length_at (is_set 3 (header f)) (is_set 4 (header f)) (octets f ++ z) ≡ f.id_length =
    ap₂ (λ t s. id_length_at t s (octets f ++ z)) p.id_there p.short
    ∙ id_reported f.short f.payload_length f.id_length (header f) f.kind_length z in
    λ j. record {
      first = p.begins j;
      last = p.ends j;
      chunked = p.chunked j;
      short = p.short j;
      tnf = p.tnf j;
      kind_length = f.kind_length;
      payload_length = n j;
      id_length = i j;
    }

-- ---- pieces

-- what follows the head of a piece
abbrev after_head : Piece → List ℕ → List ℕ
after_head p rest = p.kind ++ (unwrap_or p.id [] ++ (p.payload ++ rest))

-- its head, and the rest after it
head_first : (p : Piece) (short : Bool) (front rest : List ℕ) → SpellsPiece p short front
    → front ++ rest ≡ octets (fields p short) ++ after_head p rest
head_first p short front rest s =
    ap (λ x. x ++ rest) s.spelled
    ∙ append_assoc (octets (fields p short)) (body p) rest
    ∙ ap (λ x. octets (fields p short) ++ x) (append_assoc p.kind (unwrap_or p.id [] ++ p.payload) rest
    ∙ ap (λ x. p.kind ++ x) (append_assoc (unwrap_or p.id []) p.payload rest))

id_is_same : (i : Option (List ℕ)) → id_of (option_map length i) (unwrap_or i []) ≡ i
id_is_same None = refl
id_is_same (Some x) = refl

same_piece : (p : Piece) (short : Bool) (k i n : List ℕ) → k ≡ p.kind → i ≡ unwrap_or p.id [] → n ≡ p.payload
    → piece (fields p short) k i n ≡ p
same_piece p short k i n e1 e2 e3 = rw (e1, e2, e3) (ap (λ x. record p { id = x }) (id_is_same p.id))

-- what follows its head determines it
parts_reported : (p : Piece) (short : Bool) (rest : List ℕ) → piece_with (fields p short) (after_head p rest) ≡ p
parts_reported p short rest =
    let z = after_head p rest in
    let n = id_count p.id in
    let d1 : drop (length p.kind) z ≡ unwrap_or p.id [] ++ (p.payload ++ rest) = drop_at p.kind _ _ refl in
    let d2 : drop (unwrap_or (option_map length p.id) 0) (drop (length p.kind) z) ≡ p.payload ++ rest =
    ap (drop (unwrap_or (option_map length p.id) 0)) d1 ∙ drop_at (unwrap_or p.id []) (p.payload ++ rest) _ (sym n) in
    same_piece p short _ _ _ (take_at p.kind _ _ refl)
    (ap (take (unwrap_or (option_map length p.id) 0)) d1 ∙ take_at (unwrap_or p.id []) (p.payload ++ rest) _ (sym n))
    (ap (take (length p.payload)) d2 ∙ take_at p.payload rest _ refl)

-- the octets of a piece determine it, whatever follows
piece_reported : (p : Piece) (short : Bool) (front rest : List ℕ) → SpellsPiece p short front
    → piece_at (front ++ rest) ≡ p
unfolding piece_at
piece_reported p short front rest s =
    let f = fields p short in
    let z = after_head p rest in
    let l = piece_head p short front s in
    let following : drop (size (header f)) (octets f ++ z) ≡ z = drop_at (octets f) z _ (octets_size f l.tnf) in
    ap piece_at (head_first p short front rest s) ∙ ap₂ piece_with (head_is_known f z l) following
    ∙ parts_reported p short rest

-- the octets of a piece determine their number, whatever follows
size_reported : (p : Piece) (short : Bool) (front rest : List ℕ) → SpellsPiece p short front
    → size_at (front ++ rest) ≡ length front
unfolding size_at
size_reported p short front rest s =
    let f = fields p short in
    let z = after_head p rest in
    let l = piece_head p short front s in
    let n = id_count p.id in
    let a : size_at (octets f ++ z) ≡ size (header f) + body_size f = ap (λ f'. size (header f) + body_size f')
    (head_is_known f z l) in
    let o = octets_size f l.tnf in
    let whole = ap length s.spelled ∙ length-append (octets f) (body p) in
    let m = body_length p in
    ap size_at (head_first p short front rest s) ∙ a ∙ omega (arith, n, o, whole, m)

-- the bytes determine the piece at their front, and the rest after it
pub same_split : (p q : Piece) (s t : Bool) (x y bytes : List ℕ) → IsSplit p s x bytes → IsSplit q t y bytes → (p ≡ q)
    × (x ≡ y)
same_split p q s t x y bytes a b =
    let e : a.front ++ x ≡ b.front ++ y = sym a.joined ∙ b.joined in
    let n : length a.front ≡ length b.front = sym (size_reported p s a.front x a.spells) ∙ ap size_at e
    ∙ size_reported q t b.front y b.spells in (
      sym (piece_reported p s a.front x a.spells) ∙ ap piece_at e ∙ piece_reported q t b.front y b.spells,
      (cut_alike a.front b.front x y n e).1,
    )

front_is_some : (p : Piece) (short : Bool) (front : List ℕ) → SpellsPiece p short front → 0 < length front
front_is_some p short front s = let e = ap length s.spelled in omega (arith, e)

-- ---- lists of pieces
pieces_skip : (k : ℕ) (bytes : List ℕ) → pieces_from k bytes ≡ pieces_of (drop k bytes)
pieces_skip zero [] = refl
pieces_skip (suc k) [] = refl
pieces_skip zero (b ∷ bytes) = refl
pieces_skip (suc k) (b ∷ bytes) = pieces_skip k bytes

drop_one : (n b : ℕ) (bytes : List ℕ) → 0 < n → drop n (b ∷ bytes) ≡ drop (n - 1) bytes
drop_one zero b bytes h = absurd (omega (arith, h))
drop_one (suc n) b bytes h = let e : n ≡ suc n - 1 = omega arith in ap (λ k. drop k bytes) e

pieces_step : (bytes : List ℕ) → 0 < length bytes → 0 < size_at bytes
    → pieces_of bytes ≡ piece_at bytes ∷ pieces_of (drop (size_at bytes) bytes)
pieces_step [] h n = absurd (omega (arith, h))
pieces_step (b ∷ bytes) h n =
    ap (λ ps. piece_at (b ∷ bytes) ∷ ps) (pieces_skip (size_at (b ∷ bytes) - 1) bytes
    ∙ ap pieces_of (sym (drop_one (size_at (b ∷ bytes)) b bytes n)))

first_reported : (p : Piece) (short : Bool) (front rest : List ℕ) → SpellsPiece p short front
    → pieces_of (front ++ rest) ≡ p ∷ pieces_of rest
first_reported p short front rest s =
    let some = front_is_some p short front s in
    let n = size_reported p short front rest s in
    let k = length-append front rest in
    pieces_step (front ++ rest) (omega (arith, some, k)) (omega (arith, some, n))
    ∙ ap₂ (λ q r. q ∷ pieces_of r) (piece_reported p short front rest s) (drop_at front rest _ (sym n))

pub pieces_reported : (ps : List Piece) (bytes : List ℕ) → SpellsPieces ps bytes → pieces_of bytes ≡ ps
pieces_reported [] bytes e = ap pieces_of e
pieces_reported (p ∷ ps) bytes (short, front, rest, e, s, more) =
    ap pieces_of e ∙ first_reported p short front rest s ∙ ap (λ qs. p ∷ qs) (pieces_reported ps rest more)

-- ---- runs
begin_alone : (p : Piece) (rs : List Run) → p.chunked ≡ false → begin_run p rs ≡ record { initial = p; later = [] } ∷ rs
begin_alone p [] c = refl
begin_alone p (r ∷ rs) c = rw c refl

pub run_reported : (p : Piece) (later rest : List Piece) → Follow p.chunked later
    → runs_of ((p ∷ later) ++ rest) ≡ record { initial = p; later = later } ∷ runs_of rest
run_reported p [] rest c = begin_alone p (runs_of rest) c
run_reported p (q ∷ later) rest (c, l, more) = ap (begin_run p) (run_reported q later rest more) ∙ rw c refl

pub runs_reported : (rs : List Run) → AllByRecursion (λ r. Follow r.initial.chunked r.later) rs
    → runs_of (all_pieces rs) ≡ rs
runs_reported [] h = refl
runs_reported (r ∷ rs) h = run_reported r.initial r.later (all_pieces rs) h.0 ∙ ap (λ x. r ∷ x) (runs_reported rs h.1)

pub follow_of_read : (rs : List Run) → AllByRecursion IsSeenRecord rs
    → AllByRecursion (λ r. Follow r.initial.chunked r.later) rs
follow_of_read [] h = tt
follow_of_read (r ∷ rs) h = (h.0.follow, follow_of_read rs h.1)

follow_of_run : (profile : Profile) (rs : List Run) → AllByRecursion (IsRun profile) rs
    → AllByRecursion (λ r. Follow r.initial.chunked r.later) rs
follow_of_run profile [] h = tt
follow_of_run profile (r ∷ rs) h = (h.0.follow, follow_of_run profile rs h.1)

-- the bytes of a message determine its runs
pub flat_reported : (profile : Profile) (rs : List Run) (items : List Item) (bytes : List ℕ)
    → SpellsBy profile rs items bytes → runs_of (pieces_of bytes) ≡ rs
flat_reported profile rs items bytes f = ap runs_of (pieces_reported (all_pieces rs) bytes f.spelled)
    ∙ runs_reported rs (follow_of_run profile rs f.message.each_run)

-- the bytes of a run determine it
pub run_is : (r : Run) (bytes : List ℕ) → SpellsPieces (pieces r) bytes → run_of bytes ≡ r
run_is r bytes (short, front, rest, e, s, more) =
    let n = size_reported r.initial short front rest s in
    ap run_of e ∙ ap₂ (λ p ps. record { initial = p; later = ps }) (piece_reported r.initial short front rest s)
    (ap pieces_of (drop_at front rest _ (sym n)) ∙ pieces_reported r.later rest more)

-- ---- the first of some pieces

-- the bytes are those of this piece, and of these after it
pub record First (p : Piece) (ps : List Piece) (bytes : List ℕ) : Type 0 where
  pub short : Bool
  pub rest : List ℕ
  pub split : IsSplit p short rest bytes
  pub more : SpellsPieces ps rest

pub first_piece_of : (p : Piece) (ps : List Piece) (bytes : List ℕ) → SpellsPieces (p ∷ ps) bytes → First p ps bytes
first_piece_of p ps bytes (short, front, rest, e, s, more) =
    record { short = short; rest = rest; split = record { front = front; spells = s; joined = e }; more = more }

pub first_of_some : (ps : List Piece) (bytes : List ℕ) → 0 < length bytes → SpellsPieces ps bytes → (p : Piece)
    × (later : List Piece) × First p later bytes
first_of_some [] bytes n e = absurd (let h = ap length e in omega (arith, n, h))
first_of_some (p ∷ ps) bytes n s = (p, ps, first_piece_of p ps bytes s)

pub begins : {p : Piece} {ps : List Piece} {bytes : List ℕ} → First p ps bytes → BeginWithPiece bytes
begins {p} f = record { piece = p; short = f.short; rest = f.rest; split = f.split }

-- it is the one that is shown
pub first_shown : {p : Piece} {ps : List Piece} {bytes : List ℕ} (f : First p ps bytes) (q : Piece) (short : Bool)
    (x : List ℕ) → IsSplit q short x bytes → (q ≡ p) × (x ≡ f.rest)
first_shown {p} {ps} {bytes} f q short x i = same_split q p short f.short x f.rest bytes i f.split

-- the state after it
pub reported_after : {p : Piece} {ps : List Piece} {bytes : List ℕ} (f : First p ps bytes)
    → pieces_of bytes ≡ p ∷ pieces_of f.rest
reported_after {p} f = ap pieces_of f.split.joined ∙ first_reported p f.short f.split.front f.rest f.split.spells

-- something of it is taken
pub shorter : {p : Piece} {ps : List Piece} {bytes : List ℕ} (f : First p ps bytes) → length f.rest < length bytes
shorter {p} f =
    let e = ap length f.split.joined ∙ length-append f.split.front f.rest in
    let k = front_is_some p f.short f.split.front f.split.spells in
    omega (arith, e, k)
