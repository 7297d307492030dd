-- The pieces that follow one another at the front of some bytes.
use Rattle.std.proofs.Common.{◌≡◌, ℕ, ◌+◌, ◌≤◌, ◌∷◌, [], sym, refl, ◌∙◌, ap, ap₂, subst, arith, List, ◌++◌, length, length-append, append_assoc, append-nil, Bool, true, false, true≢false}
use Rattle.ndef_format.specs.Records.{Piece, Run, Follow, IsInitial, IsLater, fields, octets, body}
use Rattle.ndef_format.specs.Messages.{SpellsPieces, payload_of}
use Rattle.ndef_format.specs.declared.profile.Profile.TheVariants.{Standard}
use Rattle.ndef_piece.specs.Whole.{IsSplit, BeginWithPiece}
use Rattle.ndef_c.specs.Walks.{BeginsWithRun, OneRecordIsThere, ends_message}
use Rattle.std.specs.Prelude.{unwrap_or}
use Rattle.std.proofs.lemmas.Grind.{flat_map-append}
use Rattle.ndef_message.specs.Machine.SeenLaws.{same_split}

-- ---- one piece

-- it has more octets than its payload
pub split_size : (p : Piece) (s : Bool) (x bytes : List ℕ) → IsSplit p s x bytes → 1 + length p.payload + length x ≤ length bytes
split_size p s x bytes i =
    let a = ap length i.joined ∙ length-append i.front x in
    let b = ap length i.spells.spelled ∙ length-append (octets (fields p s)) (body p) in
    let c = length-append p.kind (unwrap_or p.id [] ++ p.payload) in
    let d = length-append (unwrap_or p.id []) p.payload in
    omega (arith, a, b, c, d)

-- ---- those after it

-- the bytes begin with these pieces, which are what follows a piece with such a CF, and then come others
pub record Later (chunked : Bool) (ps : List Piece) (rest bytes : List ℕ) : Type 0 where
  pub follow : Follow chunked ps
  pub front : List ℕ
  pub spelled : SpellsPieces ps front
  pub joined : bytes ≡ front ++ rest

-- the first of them, and the others
pub record Next (ps : List Piece) (rest bytes : List ℕ) : Type 0 where
  pub piece : Piece
  pub more : List Piece
  pub are : ps ≡ piece ∷ more
  pub is_later : IsLater piece
  pub short : Bool
  pub following : List ℕ
  pub split : IsSplit piece short following bytes
  pub others : Later piece.chunked more rest following

pub later_none : (ps : List Piece) (rest bytes : List ℕ) → Later false ps rest bytes → (ps ≡ []) × (rest ≡ bytes)
later_none [] rest bytes l = (refl, sym (l.joined ∙ ap (λ x. x ++ rest) l.spelled))
later_none (q ∷ qs) rest bytes l = absurd (true≢false (sym l.follow.0))

pub later_nil : (bytes : List ℕ) → Later false [] bytes bytes
later_nil bytes = record { follow = refl; front = []; spelled = refl; joined = refl }

pub later_next : (ps : List Piece) (rest bytes : List ℕ) → Later true ps rest bytes → Next ps rest bytes
later_next [] rest bytes l = absurd (true≢false l.follow)
later_next (q ∷ qs) rest bytes l =
    let s = l.spelled in
    record {
      piece = q;
      more = qs;
      are = refl;
      is_later = l.follow.1;
      short = s.0;
      following = s.2 ++ rest;
      split = record { front = s.1; spells = s.4; joined = l.joined ∙ ap (λ x. x ++ rest) s.3 ∙ append_assoc s.1 s.2 rest };
      others = record { follow = l.follow.2; front = s.2; spelled = s.5; joined = refl };
    }

pub later_cons : (q : Piece) (qs : List Piece) (short : Bool) (rest following bytes : List ℕ) → IsLater q → IsSplit q short following bytes → Later q.chunked qs rest following → Later true (q ∷ qs) rest bytes
later_cons q qs short rest following bytes is i l = record {
  follow = (refl, is, l.follow);
  front = i.front ++ l.front;
  spelled = (short, i.front, l.front, refl, i.spells, l.spelled);
  joined = i.joined ∙ ap (λ x. i.front ++ x) l.joined ∙ sym (append_assoc i.front l.front rest);
}

same_later : (chunked : Bool) (ps qs : List Piece) (x y bytes : List ℕ) → Later chunked ps x bytes → Later chunked qs y bytes → (ps ≡ qs) × (x ≡ y)
same_later false ps qs x y bytes a b =
    let l = later_none ps x bytes a in let m = later_none qs y bytes b in (l.0 ∙ sym m.0, l.1 ∙ sym m.1)
same_later true [] qs x y bytes a b = absurd (true≢false a.follow)
same_later true (p ∷ ps) [] x y bytes a b = absurd (true≢false b.follow)
same_later true (p ∷ ps) (q ∷ qs) x y bytes a b =
    let l = later_next (p ∷ ps) x bytes a in
    let m = later_next (q ∷ qs) y bytes b in
    let s = same_split p q a.spelled.0 b.spelled.0 (a.spelled.2 ++ x) (b.spelled.2 ++ y) bytes
    (record { front = a.spelled.1; spells = a.spelled.4; joined = a.joined ∙ ap (λ z. z ++ x) a.spelled.3 ∙ append_assoc a.spelled.1 a.spelled.2 x })
    (record { front = b.spelled.1; spells = b.spelled.4; joined = b.joined ∙ ap (λ z. z ++ y) b.spelled.3 ∙ append_assoc b.spelled.1 b.spelled.2 y }) in
    let c : p.chunked ≡ q.chunked = ap (λ r. r.chunked) s.0 in
    let t = same_later p.chunked ps qs x y (a.spelled.2 ++ x)
    (record { follow = a.follow.2; front = a.spelled.2; spelled = a.spelled.5; joined = refl })
    (record { follow = subst (λ k. Follow k qs) (sym c) b.follow.2; front = b.spelled.2; spelled = b.spelled.5; joined = s.1 }) in
    (ap₂ (λ r rs. r ∷ rs) s.0 t.0, t.1)

-- ---- runs

-- a run is its initial piece, and what follows it
pub record Initial (run : Run) (rest bytes : List ℕ) : Type 0 where
  pub is_initial : IsInitial Standard run.initial
  pub short : Bool
  pub following : List ℕ
  pub split : IsSplit run.initial short following bytes
  pub others : Later run.initial.chunked run.later rest following

pub initial_of : (run : Run) (rest bytes : List ℕ) → BeginsWithRun run rest bytes → Initial run rest bytes
initial_of run rest bytes b =
    let s = b.spelled in
    record {
      is_initial = b.read.initial;
      short = s.0;
      following = s.2 ++ rest;
      split = record { front = s.1; spells = s.4; joined = b.joined ∙ ap (λ x. x ++ rest) s.3 ∙ append_assoc s.1 s.2 rest };
      others = record { follow = b.read.follow; front = s.2; spelled = s.5; joined = refl };
    }

pub begins_with : (p : Piece) (ps : List Piece) (short : Bool) (rest following bytes : List ℕ) → IsInitial Standard p → IsSplit p short following bytes → Later p.chunked ps rest following
    → BeginsWithRun (record { initial = p; later = ps }) rest bytes
begins_with p ps short rest following bytes is i l = record {
  read = record { initial = is; follow = l.follow };
  front = i.front ++ l.front;
  spelled = (short, i.front, l.front, refl, i.spells, l.spelled);
  joined = i.joined ∙ ap (λ x. i.front ++ x) l.joined ∙ sym (append_assoc i.front l.front rest);
}

pub begins_with_piece : (run : Run) (rest bytes : List ℕ) → BeginsWithRun run rest bytes → BeginWithPiece bytes
begins_with_piece run rest bytes b = let i = initial_of run rest bytes b in record { piece = run.initial; short = i.short; rest = i.following; split = i.split }

pub one_record : OneRecordIsThere
one_record r s x y bytes a b =
    let i = initial_of r x bytes a in
    let j = initial_of s y bytes b in
    let p = same_split r.initial s.initial i.short j.short i.following j.following bytes i.split j.split in
    let c : r.initial.chunked ≡ s.initial.chunked = ap (λ p. p.chunked) p.0 in
    let l = same_later r.initial.chunked r.later s.later x y i.following i.others
    (record { follow = subst (λ k. Follow k s.later) (sym c) j.others.follow; front = j.others.front; spelled = j.others.spelled; joined = p.1 ∙ j.others.joined }) in
    (ap₂ (λ p ps. record { initial = p; later = ps }) p.0 l.0, l.1)

-- the run with which the bytes begin, where this piece is there
pub record From (p : Piece) (run : Run) (end following : List ℕ) : Type 0 where
  pub same : run.initial ≡ p
  pub is_initial : IsInitial Standard p
  pub others : Later p.chunked run.later end following

pub from_piece : (p : Piece) (short : Bool) (following bytes : List ℕ) → IsSplit p short following bytes → (run : Run) (end : List ℕ) → BeginsWithRun run end bytes → From p run end following
from_piece p short following bytes s run end b =
    let i = initial_of run end bytes b in
    let e = same_split run.initial p i.short short i.following following bytes i.split s in
    record {
      same = e.0;
      is_initial = subst (IsInitial Standard) e.0 i.is_initial;
      others = subst (λ z. Later p.chunked run.later end z) e.1 (subst (λ q. Later q.chunked run.later end i.following) e.0 i.others);
    }

-- ---- a run that is read piece by piece

-- of a run with the initial piece p these pieces were read, the last of them q, and these bytes are left
pub record Reading (p q : Piece) (following rest : List ℕ) (size count : ℕ) : Type 0 where
  pub done : List Piece
  pub onto : (ps : List Piece) (end : List ℕ) → Later q.chunked ps end rest → Later p.chunked (done ++ ps) end following
  pub back : (ps : List Piece) (end : List ℕ) → Later p.chunked ps end following → (qs : List Piece) × (ps ≡ done ++ qs) × Later q.chunked qs end rest
  pub size_is : size ≡ length (payload_of (p ∷ done))
  pub count_is : count ≡ length (p ∷ done)
  pub last_is : q.last ≡ ends_message p done

pub reading_at : (p : Piece) (following : List ℕ) → Reading p p following following (length p.payload) 1
reading_at p following = record {
  done = [];
  onto = λ ps end l. l;
  back = λ ps end l. (ps, refl, l);
  size_is = ap length (sym (append-nil p.payload));
  count_is = refl;
  last_is = refl;
}

last_of : (p q : Piece) (ps : List Piece) → q.last ≡ ends_message p (ps ++ q ∷ [])
last_of p q [] = refl
last_of p q (r ∷ ps) = last_of r q ps

pub payload_on : (ps : List Piece) (p : Piece) → payload_of (ps ++ p ∷ []) ≡ payload_of ps ++ p.payload
payload_on ps p = flat_map-append (λ q. q.payload) ps (p ∷ []) ∙ ap (λ x. payload_of ps ++ x) (append-nil p.payload)

-- one more
pub reading_on : {p q r : Piece} {following rest more : List ℕ} {size count : ℕ} (short : Bool) → Reading p q following rest size count → q.chunked ≡ true → IsLater r → IsSplit r short more rest
    → Reading p r following more (size + length r.payload) (count + 1)
reading_on {p} {q} {r} {following} {rest} {more} {size} {count} short g c is i = record {
  done = g.done ++ r ∷ [];
  onto = λ ps end l. subst (λ z. Later p.chunked z end following) (sym (append_assoc g.done (r ∷ []) ps))
      (g.onto (r ∷ ps) end (subst (λ k. Later k (r ∷ ps) end rest) (sym c) (later_cons r ps short end more rest is i l)));
  back = λ ps end l.
      let b = g.back ps end l in
      let n = later_next b.0 end rest (subst (λ k. Later k b.0 end rest) c b.2) in
      let s = same_split n.piece r n.short short n.following more rest n.split i in
      let chunked : n.piece.chunked ≡ r.chunked = ap (λ p. p.chunked) s.0 in (
        n.more,
        b.1 ∙ ap (λ z. g.done ++ z) (n.are ∙ ap (λ p. p ∷ n.more) s.0) ∙ sym (append_assoc g.done (r ∷ []) n.more),
        subst (λ z. Later r.chunked n.more end z) s.1 (subst (λ k. Later k n.more end n.following) chunked n.others),
      );
  size_is = let e = g.size_is in let a = ap length (payload_on (p ∷ g.done) r) ∙ length-append (payload_of (p ∷ g.done)) r.payload in omega (arith, e, a);
  count_is = let e = g.count_is in let a = length-append g.done (r ∷ []) in omega (arith, e, a);
  last_is = last_of p r g.done;
}

-- where it goes on a later piece is there
pub goes_on : {p q : Piece} {following rest : List ℕ} {size count : ℕ} (g : Reading p q following rest size count) → q.chunked ≡ true → (ps : List Piece) (end : List ℕ) → Later p.chunked ps end following
    → (qs : List Piece) × Next qs end rest
goes_on {p} {q} {following} {rest} g c ps end l =
    let b = g.back ps end l in (b.0, later_next b.0 end rest (subst (λ k. Later k b.0 end rest) c b.2))

-- where it ends all of it was read
pub is_read : {p q : Piece} {following rest : List ℕ} {size count : ℕ} (g : Reading p q following rest size count) → q.chunked ≡ false → Later p.chunked g.done rest following
is_read {p} {q} {following} {rest} g c =
    subst (λ z. Later p.chunked z rest following) (append-nil g.done) (g.onto [] rest (subst (λ k. Later k [] rest rest) (sym c) (later_nil rest)))
