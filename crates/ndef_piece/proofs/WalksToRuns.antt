-- The pieces that walk are those of runs.
use Rattle.std.proofs.Common.{◌≡◌, ℕ, ◌-◌, ◌≤◌, inl, inr, Bool, true, false, refl, sym, ◌∙◌, ap, subst, arith, List, [], ◌∷◌, ◌++◌, length, map, append_assoc, length-append}
use Rattle.std.specs.Prelude.{unwrap_or}
use Rattle.std.specs.List.{AllByRecursion}
use Rattle.std.proofs.lemmas.List.{append-nil}
use Rattle.std.proofs.lemmas.Bool.{eqb-false, cases_Bool, false≢true}
use Rattle.ndef_format.specs.Records.{Piece, Run, Follow, IsRun, pieces, tnf_of}
use Rattle.ndef_format.specs.Messages.{Item, IsShaped, payload_of, run_record, EndsOnce, all_pieces}
use Rattle.ndef_format.specs.Limits.{LimitValues}
use Rattle.ndef_format.specs.Positions.{IsConsistentAt}
use Rattle.ndef_piece.specs.Walk.{Before, outside, inside, spot, after, Walk}
use Rattle.ndef_piece.proofs.RunShapes.{run, grown, shaped_run}

-- the records of these runs
pub record Records (limits : LimitValues) (n : ℕ) (runs : List Run) (items : List Item) : Type 0 where
  pub each_run : AllByRecursion (IsRun limits.profile) runs
  pub items_are : map run_record runs ≡ items
  pub shaped : AllByRecursion IsShaped items
  pub few_records : length runs ≤ n
  pub few_pieces : AllByRecursion (λ r. length (pieces r) ≤ limits.pieces) runs
  pub small : AllByRecursion (λ r. length (payload_of (pieces r)) ≤ limits.payload) runs

-- the runs of the pieces that walk from where a record begins
pub record Outer (limits : LimitValues) (n : ℕ) (ps : List Piece) (items : List Item) : Type 0 where
  pub runs : List Run
  pub pieces_are : ps ≡ all_pieces runs
  pub records : Records limits n runs items

-- the rest of the open run, and the runs after it, of the pieces that walk from within a run
record Inner (limits : LimitValues) (n k room : ℕ) (m : Item) (ps : List Piece) (items : List Item) : Type 0 where
  later : List Piece
  runs : List Run
  rest : List Item
  pieces_are : ps ≡ later ++ all_pieces runs
  follow : Follow true later
  few : length later ≤ k
  small : length (payload_of later) ≤ room
  items_are : items ≡ grown m (payload_of later) ∷ rest
  records : Records limits (n - 1) runs rest

no_records : (limits : LimitValues) (n : ℕ) → Records limits n [] []
no_records limits n = record { each_run = tt; items_are = refl; shaped = tt; few_records = omega arith; few_pieces = tt; small = tt }

-- one run and its record more
more_records : (limits : LimitValues) (n : ℕ) (r : Run) (runs : List Run) (items : List Item) → 1 ≤ n → IsRun limits.profile r → IsShaped (run_record r)
    → length (pieces r) ≤ limits.pieces → length (payload_of (pieces r)) ≤ limits.payload → Records limits (n - 1) runs items
    → Records limits n (r ∷ runs) (run_record r ∷ items)
more_records limits n r runs items h a s l p w = record {
  each_run = (a, w.each_run);
  items_are = ap (λ x. run_record r ∷ x) w.items_are;
  shaped = (s, w.shaped);
  few_records = (let f = w.few_records in omega (arith, f));
  few_pieces = (l, w.few_pieces);
  small = (p, w.small);
}

-- both, piece by piece
forward : (limits : LimitValues) → 1 ≤ limits.pieces → (ps : List Piece)
    → ((first over : Bool) (n : ℕ) (items : List Item) → (over ≡ false → 1 ≤ n) → Walk limits (outside limits first over n) ps items → Outer limits n ps items)
    × ((n k room : ℕ) (m : Item) (items : List Item) → 1 ≤ n → 1 ≤ k → Walk limits (inside n k room m) ps items → Inner limits n k room m ps items)
forward limits l [] = (
  (λ first over n items h w. record { runs = []; pieces_are = refl; records = subst (Records limits n []) (sym w.1) (no_records limits n) }),
  (λ n k room m items h g w. absurd (false≢true w.0)),
)
forward limits l (p ∷ ps) =
    let next = forward limits l ps in (
      (λ first over n items h w.
          let s = w.1 in
          let i = s.initial refl in
          elim (cases_Bool p.chunked) [
            | inl c ↦
                let walk = rw c at w.4 in
                let e = rw c at w.3 in
                let few = eqb-false _ _ (s.chunked c).1 in
                let room = s.room in
                let t = next.1 n (limits.pieces - 1) (limits.payload - length p.payload) _ w.2 (h w.0) (omega (arith, few, l)) walk in
                let r = run p t.later in
                let size = length-append p.payload (payload_of t.later) in
                let a : IsRun limits.profile r = record { initial = i.0; follow = subst (λ b. Follow b t.later) (sym c) t.follow } in
                record {
                  runs = r ∷ t.runs;
                  pieces_are = ap (λ x. p ∷ x) t.pieces_are;
                  records = subst (Records limits n (r ∷ t.runs)) (sym (e ∙ t.items_are))
                      (more_records limits n r t.runs t.rest (h w.0) a (shaped_run limits.profile p t.later i.0 a.follow i.1)
                      (let f = t.few in omega (arith, f, few, l)) (let f = t.small in omega (arith, f, size, room)) t.records);
                }
            | inr c ↦
                let walk = rw c at w.4 in
                let e = rw c at w.3 in
                let t = next.0 false p.last (n - 1) w.2 (λ o. (let few = eqb-false _ _ (s.followed c o) in let g = h w.0 in omega (arith, few, g))) walk in
                let r = run p [] in
                let a : IsRun limits.profile r = record { initial = i.0; follow = c } in
                let room = s.room in
                let size = length-append p.payload [] in
                record {
                  runs = r ∷ t.runs;
                  pieces_are = ap (λ x. p ∷ x) t.pieces_are;
                  records = subst (Records limits n (r ∷ t.runs)) (sym (e ∙ ap (λ x. record { tnf = tnf_of p.tnf; kind = p.kind; id = unwrap_or p.id []; payload = x } ∷ w.2) (sym (append-nil p.payload))))
                      (more_records limits n r t.runs w.2 (h w.0) a (shaped_run limits.profile p [] i.0 c i.1)
                      l (omega (arith, size, room)) t.records);
                }
          ]),
      (λ n k room m items h g w.
          let s = w.1 in
          let i = s.later refl in
          elim (cases_Bool p.chunked) [
            | inl c ↦
                let walk = rw c at w.4 in
                let e = rw c at w.3 in
                let few = eqb-false _ _ (s.chunked c).1 in
                let fits = s.room in
                let t = next.1 n (k - 1) (room - length p.payload) (grown m p.payload) w.2 h (omega (arith, few, g)) walk in
                let size = length-append p.payload (payload_of t.later) in
                record {
                  later = p ∷ t.later;
                  runs = t.runs;
                  rest = t.rest;
                  pieces_are = ap (λ x. p ∷ x) t.pieces_are;
                  follow = (refl, i, subst (λ b. Follow b t.later) (sym c) t.follow);
                  few = (let f = t.few in omega (arith, f, few, g));
                  small = (let f = t.small in omega (arith, f, size, fits));
                  items_are = e ∙ t.items_are ∙ ap (λ x. record { tnf = m.tnf; kind = m.kind; id = m.id; payload = x } ∷ t.rest) (append_assoc m.payload p.payload (payload_of t.later));
                  records = t.records;
                }
            | inr c ↦
                let walk = rw c at w.4 in
                let e = rw c at w.3 in
                let t = next.0 false p.last (n - 1) w.2 (λ o. (let few = eqb-false _ _ (s.followed c o) in omega (arith, few, h))) walk in
                let size = length-append p.payload [] in
                let fits = s.room in
                record {
                  later = p ∷ [];
                  runs = t.runs;
                  rest = w.2;
                  pieces_are = ap (λ x. p ∷ x) t.pieces_are;
                  follow = (refl, i, c);
                  few = g;
                  small = omega (arith, size, fits);
                  items_are = e ∙ ap (λ x. record { tnf = m.tnf; kind = m.kind; id = m.id; payload = m.payload ++ x } ∷ w.2) (sym (append-nil p.payload));
                  records = t.records;
                }
          ]),
    )

-- from where a record begins
pub to_runs : (limits : LimitValues) → 1 ≤ limits.pieces → (ps : List Piece) (first over : Bool) (n : ℕ) (items : List Item) → (over ≡ false → 1 ≤ n)
    → Walk limits (outside limits first over n) ps items → Outer limits n ps items
to_runs limits l ps = (forward limits l ps).0

-- ---- MB and ME along a walk

-- after a piece none is the first
pub not_first : (limits : LimitValues) (c : Before) (p : Piece) → (after limits c p).first ≡ false
not_first limits c p =
    elim (cases_Bool p.chunked) [
      | inl e ↦ rw e refl
      | inr e ↦ rw e refl
    ]

-- MB is clear in every piece after the first
pub later_firsts : (limits : LimitValues) (c : Before) (ps : List Piece) (items : List Item) → c.first ≡ false → Walk limits c ps items → AllByRecursion (λ q. q.first ≡ false) ps
later_firsts limits c [] items f w = tt
later_firsts limits c (p ∷ ps) items f w = (w.1.begins ∙ f, later_firsts limits (after limits c p) ps w.2 (not_first limits c p) w.4)

-- the message is over after the piece with ME
pub over_after : (limits : LimitValues) (c : Before) (p : Piece) (b : Bool) → (after limits c p).over ≡ b → IsConsistentAt (spot limits.profile c) p → p.last ≡ b
over_after limits c p b e s =
    elim (cases_Bool p.chunked) [
      | inl k ↦ (s.chunked k).0 ∙ (rw k at e)
      | inr k ↦ rw k at e
    ]

-- ME is set in the last piece alone
pub ends_once : (limits : LimitValues) (c : Before) (p : Piece) (ps : List Piece) (items : List Item) → Walk limits c (p ∷ ps) items → EndsOnce (p ∷ ps)
ends_once limits c p [] items w = over_after limits c p true w.4.0 w.1
ends_once limits c p (q ∷ ps) items w = (over_after limits c p false w.4.0 w.1, ends_once limits (after limits c p) q ps w.2 w.4)
