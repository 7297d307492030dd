-- The pieces of runs walk.
use Rattle.std.proofs.Common.{◌≡◌, ℕ, ◌-◌, ◌≤◌, Bool, true, false, refl, ap, subst, arith, List, [], ◌∷◌, ◌++◌, length, map, append_assoc, length-append}
use Rattle.std.specs.Prelude.{unwrap_or, ◌==◌}
use Rattle.std.specs.List.{AllByRecursion}
use Rattle.std.proofs.lemmas.List.{append-nil}
use Rattle.std.proofs.lemmas.Bool.{ne_eqb, both_ways, true≢false, false≢true}
use Rattle.ndef_format.specs.Records.{Piece, Run, Follow, IsRun, pieces, tnf_of}
use Rattle.ndef_format.specs.Messages.{Item, IsShaped, payload_of, run_record, EndsOnce, all_pieces}
use Rattle.ndef_format.specs.Limits.{LimitValues}
use Rattle.ndef_piece.specs.Walk.{outside, inside, Walk}
use Rattle.ndef_piece.proofs.RunShapes.{run, grown, shaped_piece}

-- what follows a record: the rest of the walk, and where there is one, another record is allowed
record Goes (limits : LimitValues) (n : ℕ) (tail : List Piece) (rest : List Item) : Type 0 where
  walk : (p : Piece) → EndsOnce (p ∷ tail) → Walk limits (outside limits false p.last (n - 1)) tail rest
  followed : (p : Piece) → EndsOnce (p ∷ tail) → p.last ≡ false → (n == 1) ≡ false

-- the rest of a run walks
inner_back : (limits : LimitValues) (n k room : ℕ) (m : Item) (later tail : List Piece) (rest : List Item) → Follow true later → length later ≤ k
    → length (payload_of later) ≤ room → AllByRecursion (λ q. q.first ≡ false) later → EndsOnce (later ++ tail) → Goes limits n tail rest
    → Walk limits (inside n k room m) (later ++ tail) (grown m (payload_of later) ∷ rest)
inner_back limits n k room m [] tail rest f few small b e g = absurd (true≢false f)
inner_back limits n k room m (p ∷ []) tail rest f few small b e g =
    let size = length-append p.payload [] in (
      refl,
      record {
        begins = b.0;
        initial = λ o. absurd (true≢false o);
        later = λ o. f.1;
        chunked = λ c. absurd (both_ways p.chunked f.2 c);
        followed = λ c l. g.followed p e l;
        room = omega (arith, size, small);
      },
      rest,
      rw f.2 (ap (λ x. record { tnf = m.tnf; kind = m.kind; id = m.id; payload = m.payload ++ x } ∷ rest) (append-nil p.payload)),
      rw f.2 (g.walk p e),
    )
inner_back limits n k room m (p ∷ q ∷ later) tail rest f few small b e g =
    let size = length-append p.payload (payload_of (q ∷ later)) in
    let w = inner_back limits n (k - 1) (room - length p.payload) (grown m p.payload) (q ∷ later) tail rest (refl, f.2.1, f.2.2) (omega (arith, few)) (omega (arith, size, small)) b.1 e.1 g in (
      refl,
      record {
        begins = b.0;
        initial = λ o. absurd (true≢false o);
        later = λ o. f.1;
        chunked = λ c. (e.0, ne_eqb k 1 (λ z. omega (arith, few, z)));
        followed = λ c l. absurd (both_ways p.chunked c f.2.0);
        room = omega (arith, size, small);
      },
      grown m (payload_of (p ∷ q ∷ later)) ∷ rest,
      rw f.2.0 refl,
      rw f.2.0 (subst (λ x. Walk limits (inside n (k - 1) (room - length p.payload) (grown m p.payload)) ((q ∷ later) ++ tail) (record { tnf = m.tnf; kind = m.kind; id = m.id; payload = x } ∷ rest))
          (append_assoc m.payload p.payload (payload_of (q ∷ later))) w),
    )

-- a run walks from where a record begins
one_run : (limits : LimitValues) (first : Bool) (n : ℕ) (p : Piece) (later tail : List Piece) (rest : List Item) → IsRun limits.profile (run p later) → IsShaped (run_record (run p later))
    → length (p ∷ later) ≤ limits.pieces → length (payload_of (p ∷ later)) ≤ limits.payload → p.first ≡ first → AllByRecursion (λ q. q.first ≡ false) later
    → EndsOnce (p ∷ (later ++ tail)) → Goes limits n tail rest
    → Walk limits (outside limits first false n) (p ∷ (later ++ tail)) (run_record (run p later) ∷ rest)
one_run limits first n p [] tail rest r s few small b bs e g =
    let size = length-append p.payload [] in (
      refl,
      record {
        begins = b;
        initial = λ o. (r.initial, shaped_piece limits.profile p [] r.initial s);
        later = λ o. absurd (false≢true o);
        chunked = λ c. absurd (both_ways p.chunked r.follow c);
        followed = λ c l. g.followed p e l;
        room = omega (arith, size, small);
      },
      rest,
      rw r.follow (ap (λ x. record { tnf = tnf_of p.tnf; kind = p.kind; id = unwrap_or p.id []; payload = x } ∷ rest) (append-nil p.payload)),
      rw r.follow (g.walk p e),
    )
one_run limits first n p (q ∷ later) tail rest r s few small b bs e g =
    let c = r.follow.0 in
    let size = length-append p.payload (payload_of (q ∷ later)) in
    let m : Item = record { tnf = tnf_of p.tnf; kind = p.kind; id = unwrap_or p.id []; payload = p.payload } in
    let w = inner_back limits n (limits.pieces - 1) (limits.payload - length p.payload) m (q ∷ later) tail rest (refl, r.follow.1, r.follow.2) (omega (arith, few)) (omega (arith, size, small)) bs e.1 g in (
      refl,
      record {
        begins = b;
        initial = λ o. (r.initial, shaped_piece limits.profile p (q ∷ later) r.initial s);
        later = λ o. absurd (false≢true o);
        chunked = λ d. (e.0, ne_eqb limits.pieces 1 (λ z. omega (arith, few, z)));
        followed = λ d l. absurd (both_ways p.chunked d c);
        room = omega (arith, size, small);
      },
      run_record (run p (q ∷ later)) ∷ rest,
      rw c refl,
      rw c w,
    )

-- MB is clear in both parts
all_front : (xs ys : List Piece) → AllByRecursion (λ q. q.first ≡ false) (xs ++ ys) → AllByRecursion (λ q. q.first ≡ false) xs × AllByRecursion (λ q. q.first ≡ false) ys
all_front [] ys a = (tt, a)
all_front (x ∷ xs) ys a = let w = all_front xs ys a.1 in ((a.0, w.0), w.1)

-- the facts that a message has, from the first of some runs on
pub record Message (limits : LimitValues) (first : Bool) (n : ℕ) (r : Run) (runs : List Run) : Type 0 where
  pub each_run : AllByRecursion (IsRun limits.profile) (r ∷ runs)
  pub shaped : AllByRecursion IsShaped (map run_record (r ∷ runs))
  pub few_records : length (r ∷ runs) ≤ n
  pub few_pieces : AllByRecursion (λ r. length (pieces r) ≤ limits.pieces) (r ∷ runs)
  pub small : AllByRecursion (λ r. length (payload_of (pieces r)) ≤ limits.payload) (r ∷ runs)
  pub begins : (r.initial.first ≡ first) × AllByRecursion (λ q. q.first ≡ false) (r.later ++ all_pieces runs)
  pub ends : EndsOnce (all_pieces (r ∷ runs))

-- the last of some pieces is the last of their tail
ends_tail : (later tail : List Piece) (p : Piece) → EndsOnce (p ∷ (later ++ tail)) → (q : Piece) × EndsOnce (q ∷ tail)
ends_tail [] tail p e = (p, e)
ends_tail (q ∷ later) tail p e = ends_tail later tail q e.1

-- the runs walk one after another
pub outer_back : (limits : LimitValues) (first : Bool) (n : ℕ) (r : Run) (runs : List Run) → Message limits first n r runs
    → Walk limits (outside limits first false n) (all_pieces (r ∷ runs)) (map run_record (r ∷ runs))
outer_back limits first n r [] m =
    let b = all_front r.later [] m.begins.1 in
    one_run limits first n r.initial r.later [] [] m.each_run.0 m.shaped.0 m.few_pieces.0 m.small.0 m.begins.0 b.0 m.ends
    (record { walk = λ p e. (e, refl); followed = λ p e l. absurd (both_ways p.last l e) })
outer_back limits first n r (s ∷ runs) m =
    let b = all_front r.later (all_pieces (s ∷ runs)) m.begins.1 in
    let few = m.few_records in
    let e = ends_tail r.later (all_pieces (s ∷ runs)) r.initial m.ends in
    let next : Message limits false (n - 1) s runs = record {
      each_run = m.each_run.1;
      shaped = m.shaped.1;
      few_records = omega (arith, few);
      few_pieces = m.few_pieces.1;
      small = m.small.1;
      begins = b.1;
      ends = e.1.1;
    } in
    one_run limits first n r.initial r.later (all_pieces (s ∷ runs)) (map run_record (s ∷ runs)) m.each_run.0 m.shaped.0 m.few_pieces.0 m.small.0 m.begins.0 b.0 m.ends
    (record {
      walk = λ p e. rw e.0 (outer_back limits false (n - 1) s runs next);
      followed = λ p e l. ne_eqb n 1 (λ z. omega (arith, few, z));
    })
