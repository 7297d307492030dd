-- The state after the pieces of a front: the runs that are complete, and the pieces of the open one.
use Rattle.std.proofs.Common.{◌≡◌, ℕ, ◌+◌, ◌-◌, inl, inr, Bool, true, false, refl, sym, ◌∙◌, ap, subst, arith, List, [], ◌∷◌, ◌++◌, length, map, append_assoc, length-append, Some, None, ne_eqb}
use Rattle.std.specs.Prelude.{◌==◌, unwrap_or, if◌then◌else◌}
use Rattle.std.specs.List.{AllByRecursion}
use Rattle.std.proofs.lemmas.List.{append-nil, map-append}
use Rattle.std.proofs.lemmas.Bool.{cases_Bool, eq-eqb, false≢true}
use Rattle.std.proofs.lemmas.Bool.Decides.{eqb_tells}
use Rattle.std.proofs.lemmas.Grind.{flat_map-append}
use Rattle.ndef_format.specs.Records.{Piece, Run, pieces, tnf_of, Follow}
use Rattle.ndef_format.specs.Messages.{Item, payload_of, run_record, all_pieces, EndsOnce}
use Rattle.ndef_format.specs.Limits.{LimitValues}
use Rattle.ndef_format.specs.Positions.{spot_after, PiecesAreConsistent, RunsAreConsistent, AreBefore, NoneLast, IsConsistentAt}
use Rattle.ndef_piece.specs.Field.{ended_run, PiecesGoOn}
use Rattle.ndef_piece.specs.Walk.{Before, outside, inside, start, spot, record_with, ending_record, after, Walk, Walked, standing, WalksAreCounted}
use Rattle.ndef_piece.proofs.RunShapes.{run}
use Rattle.ndef_piece.proofs.WalksToRuns.{over_after, ends_once}

-- the payload with one piece more
payload_last : (xs : List Piece) (p : Piece) → payload_of (xs ++ p ∷ []) ≡ payload_of xs ++ p.payload
payload_last xs p = flat_map-append (λ q. q.payload) xs (p ∷ []) ∙ ap (λ z. payload_of xs ++ z) (append-nil p.payload)

-- the record so far, one piece on
joined_more : (q : Piece) (qs : List Piece) (p : Piece) → record_with (Some (run_record (run q qs))) p ≡ run_record (run q (qs ++ p ∷ []))
joined_more q qs p = ap (λ x. record { tnf = tnf_of q.tnf; kind = q.kind; id = unwrap_or q.id []; payload = x }) (sym (payload_last (q ∷ qs) p))

-- the record of one piece
joined_one : (p : Piece) → record_with None p ≡ run_record (run p [])
joined_one p = ap (λ x. record { tnf = tnf_of p.tnf; kind = p.kind; id = unwrap_or p.id []; payload = x }) (sym (append-nil p.payload))

same_inside : (n k k' room room' : ℕ) (m m' : Item) → k ≡ k' → room ≡ room' → m ≡ m' → inside n k room m ≡ inside n k' room' m'
same_inside n k k' room room' m m' e f g = rw (e, f, g) refl

-- subtraction in two steps
minus_more : (a b c : ℕ) → a - b - c ≡ a - (b + c)
minus_more a b c = omega arith

-- what is known one piece on in a run
inside_more : (limits : LimitValues) (first over : Bool) (n : ℕ) (q : Piece) (qs : List Piece) (p : Piece)
    → inside n (limits.pieces - length (q ∷ qs) - 1) (limits.payload - length (payload_of (q ∷ qs)) - length p.payload) (record_with (Some (run_record (run q qs))) p)
    ≡ standing limits first over n (q ∷ (qs ++ p ∷ []))
inside_more limits first over n q qs p =
    same_inside _ _ _ _ _ _ _
    (minus_more limits.pieces (length (q ∷ qs)) 1 ∙ ap (λ x. limits.pieces - x) (sym (length-append (q ∷ qs) (p ∷ []))))
    (minus_more limits.payload (length (payload_of (q ∷ qs))) (length p.payload)
    ∙ ap (λ x. limits.payload - x) (sym (ap length (payload_last (q ∷ qs) p) ∙ length-append (payload_of (q ∷ qs)) p.payload)))
    (joined_more q qs p)

-- what is known after an initial piece
inside_one : (limits : LimitValues) (first over : Bool) (n : ℕ) (p : Piece)
    → inside n (limits.pieces - 1) (limits.payload - length p.payload) (record_with None p) ≡ standing limits first over n (p ∷ [])
inside_one limits first over n p =
    same_inside _ _ _ _ _ _ _ refl (ap (λ x. limits.payload - length x) (sym (append-nil p.payload))) (joined_one p)

-- ---- the spot

-- what is left of a number is 1 where one more than the rest makes it
one_left : (n k : ℕ) → (k - n == 1) ≡ (n + 1 == k)
one_left n k = elim (eqb_tells (k - n) 1) [
  | inl x ↦ x.0 ∙ sym (eq-eqb (n + 1) k (let e = x.1 in omega arith))
  | inr x ↦ x.0 ∙ sym (ne_eqb (n + 1) k (λ z. x.1 (omega arith)))
]

-- what is known after these runs and these pieces of an open one
abbrev following : LimitValues → (over : Bool) → List Run → List Piece → Before
following limits over runs begun = standing limits (length runs == 0) over (limits.records - length runs) begun

none_less : (n : ℕ) → n ≡ n - 0
none_less n = omega arith

-- the spot follows from them
spot_past : (limits : LimitValues) (over : Bool) (runs : List Run) (begun : List Piece) → spot limits.profile (following limits over runs begun) ≡ spot_after limits runs begun
spot_past limits over runs [] =
    let pieces = ap (λ n. n == 1) (none_less limits.pieces) ∙ one_left 0 limits.pieces in (λ i. record {
      profile = limits.profile;
      first = length runs == 0;
      inside = false;
      last_piece = pieces i;
      last_record = one_left (length runs) limits.records i;
      room = none_less limits.payload i;
    })
spot_past limits over runs (p ∷ begun) = (λ i. record {
  profile = limits.profile;
  first = false;
  inside = true;
  last_piece = one_left (length (p ∷ begun)) limits.pieces i;
  last_record = one_left (length runs) limits.records i;
  room = limits.payload - length (payload_of (p ∷ begun));
})

-- ---- a piece more

going_on : (ps : List Piece) (p : Piece) → AllByRecursion (λ q. q.chunked ≡ true) ps → p.chunked ≡ true → AllByRecursion (λ q. q.chunked ≡ true) (ps ++ p ∷ [])
going_on [] p h e = (e, tt)
going_on (q ∷ ps) p h e = (h.0, going_on ps p h.1 e)

whole_on : (runs : List Run) (r : Run) → AllByRecursion (λ r. Follow r.initial.chunked r.later) runs → Follow r.initial.chunked r.later → AllByRecursion (λ r. Follow r.initial.chunked r.later) (runs ++ r ∷ [])
whole_on [] r h f = (f, tt)
whole_on (q ∷ runs) r h f = (h.0, whole_on runs r h.1 f)

pieces_are_consistent : (limits : LimitValues) (runs : List Run) (begun ps : List Piece) (p : Piece) → PiecesAreConsistent limits runs begun ps → IsConsistentAt (spot_after limits runs (begun ++ ps)) p → PiecesAreConsistent limits runs begun (ps ++ p ∷ [])
pieces_are_consistent limits runs begun [] p h s = (subst (λ x. IsConsistentAt (spot_after limits runs x) p) (append-nil begun) s, tt)
pieces_are_consistent limits runs begun (q ∷ ps) p h s =
    (h.0, pieces_are_consistent limits runs (begun ++ q ∷ []) ps p h.1 (subst (λ x. IsConsistentAt (spot_after limits runs x) p) (sym (append_assoc begun (q ∷ []) ps)) s))

runs_are_consistent : (limits : LimitValues) (before runs : List Run) (r : Run) → RunsAreConsistent limits before runs → PiecesAreConsistent limits (before ++ runs) [] (pieces r) → RunsAreConsistent limits before (runs ++ r ∷ [])
runs_are_consistent limits before [] r h s = (subst (λ x. PiecesAreConsistent limits x [] (pieces r)) (append-nil before) s, tt)
runs_are_consistent limits before (q ∷ runs) r h s =
    (h.0, runs_are_consistent limits (before ++ q ∷ []) runs r h.1 (subst (λ x. PiecesAreConsistent limits x [] (pieces r)) (sym (append_assoc before (q ∷ []) runs)) s))

-- pieces of an open run, and one that ends it, follow its first
follows : (limits : LimitValues) (runs : List Run) (q : Piece) (begun ps : List Piece) (p : Piece) (c : Bool) → c ≡ true → AllByRecursion (λ q. q.chunked ≡ true) ps
    → PiecesAreConsistent limits runs (q ∷ begun) (ps ++ p ∷ []) → p.chunked ≡ false → Follow c (ps ++ p ∷ [])
follows limits runs q begun [] p c e h s f = (e, s.0.later refl, f)
follows limits runs q begun (x ∷ ps) p c e h s f = (e, s.0.later refl, follows limits runs q (begun ++ x ∷ []) ps p x.chunked h.0 h.1 s.1 f)

ended_pieces : (begun : List Piece) (p : Piece) → pieces (ended_run begun p) ≡ begun ++ p ∷ []
ended_pieces [] p = refl
ended_pieces (q ∷ begun) p = refl

ended_regroup : (runs : List Run) (begun : List Piece) (p : Piece) → (all_pieces runs ++ begun) ++ p ∷ [] ≡ all_pieces (runs ++ ended_run begun p ∷ [])
ended_regroup runs begun p =
    append_assoc (all_pieces runs) begun (p ∷ []) ∙ ap (λ x. all_pieces runs ++ x) (sym (append-nil (pieces (ended_run begun p)) ∙ ended_pieces begun p))
    ∙ sym (flat_map-append pieces runs (ended_run begun p ∷ []))

module _ (limits : LimitValues) (runs : List Run) (begun : List Piece) (p : Piece) (b : AreBefore limits runs begun) (stands : IsConsistentAt (spot_after limits runs begun) p) where
  run_goes_on : p.chunked ≡ true → AreBefore limits runs (begun ++ p ∷ [])
  run_goes_on c = record {
    whole = b.whole;
    going_on = going_on begun p b.going_on c;
    runs_are_consistent = b.runs_are_consistent;
    begun_are_consistent = pieces_are_consistent limits runs [] begun p b.begun_are_consistent stands;
  }

  run_ends : p.chunked ≡ false → AreBefore limits (runs ++ ended_run begun p ∷ []) []
  run_ends c = record {
    whole = whole_on runs (ended_run begun p) b.whole (follow_of begun b.going_on b.begun_are_consistent stands);
    going_on = tt;
    runs_are_consistent = runs_are_consistent limits [] runs (ended_run begun p) b.runs_are_consistent (subst (PiecesAreConsistent limits runs []) (sym (ended_pieces begun p)) (pieces_are_consistent limits runs [] begun p b.begun_are_consistent stands));
    begun_are_consistent = tt;
  }
    where
      follow_of : (begun : List Piece) → AllByRecursion (λ q. q.chunked ≡ true) begun → PiecesAreConsistent limits runs [] begun → IsConsistentAt (spot_after limits runs begun) p
          → Follow (ended_run begun p).initial.chunked (ended_run begun p).later
      follow_of [] h k t = c
      follow_of (q ∷ begun) h k t = follows limits runs q [] begun p q.chunked h.0 h.1 (pieces_are_consistent limits runs (q ∷ []) begun p k.1 t) c

pub pieces_go_on : PiecesGoOn
pieces_go_on limits runs begun p b stands = (run_goes_on limits runs begun p b stands, run_ends limits runs begun p b stands)

-- ---- pieces more

-- the runs and the open pieces after these further pieces
record Counted (limits : LimitValues) (runs : List Run) (begun ps : List Piece) (done : List Item) (d : Before) : Type 0 where
  all : List Run
  rest : List Piece
  pieces_are : (all_pieces runs ++ begun) ++ ps ≡ all_pieces all ++ rest
  done_are : map run_record runs ++ done ≡ map run_record all
  before : AreBefore limits all rest
  known : d ≡ following limits d.over all rest

-- between runs
outside_more : (limits : LimitValues) (last : Bool) (runs : List Run) (r : Run) → outside limits false last (limits.records - length runs - 1) ≡ following limits last (runs ++ r ∷ []) []
outside_more limits last runs r =
    let n : length (runs ++ r ∷ []) ≡ length runs + 1 = length-append runs (r ∷ []) in
    let some : false ≡ (length (runs ++ r ∷ []) == 0) = sym (ne_eqb (length (runs ++ r ∷ [])) 0 (λ z. omega arith)) in
    let left : limits.records - length runs - 1 ≡ limits.records - length (runs ++ r ∷ []) = omega arith in
    (λ i. outside limits (some i) last (left i))

-- the record of a run that has ended
ended_item : (limits : LimitValues) (over : Bool) (runs : List Run) (begun : List Piece) (p : Piece) → record_with (following limits over runs begun).begun p ≡ run_record (ended_run begun p)
ended_item limits over runs [] p = joined_one p
ended_item limits over runs (q ∷ begun) p = joined_more q begun p

-- what is known after a piece with which a run goes on
chunk_after : (limits : LimitValues) (c : Before) (p : Piece) → p.chunked ≡ true → after limits c p ≡ inside c.records (c.pieces - 1) (c.room - length p.payload) (record_with c.begun p)
chunk_after limits c p e = ap (λ b. if b then inside c.records (c.pieces - 1) (c.room - length p.payload) (record_with c.begun p) else outside limits false p.last (c.records - 1)) e

after_more : (limits : LimitValues) (over : Bool) (runs : List Run) (begun : List Piece) (p : Piece) → p.chunked ≡ true → after limits (following limits over runs begun) p ≡ following limits over runs (begun ++ p ∷ [])
after_more limits over runs [] p c = chunk_after limits (following limits over runs []) p c ∙ inside_one limits (length runs == 0) over (limits.records - length runs) p
after_more limits over runs (q ∷ begun) p c =
    chunk_after limits (following limits over runs (q ∷ begun)) p c ∙ inside_more limits (length runs == 0) over (limits.records - length runs) q begun p

records_left : (limits : LimitValues) (over : Bool) (runs : List Run) (begun : List Piece) → (following limits over runs begun).records ≡ limits.records - length runs
records_left limits over runs [] = refl
records_left limits over runs (q ∷ begun) = refl

after_over : (limits : LimitValues) (over : Bool) (runs : List Run) (begun : List Piece) → following limits over runs begun ≡ following limits (following limits over runs begun).over runs begun
after_over limits over runs [] = refl
after_over limits over runs (q ∷ begun) = refl

counted : (limits : LimitValues) (ps : List Piece) (over : Bool) (runs : List Run) (begun : List Piece) (done : List Item) (d : Before)
    → AreBefore limits runs begun → Walked limits (following limits over runs begun) ps done d → Counted limits runs begun ps done d
counted limits [] over runs begun done d b w = record {
  all = runs;
  rest = begun;
  pieces_are = append-nil (all_pieces runs ++ begun);
  done_are = ap (λ x. map run_record runs ++ x) w.0 ∙ append-nil (map run_record runs);
  before = b;
  known = w.1 ∙ after_over limits over runs begun ∙ ap (λ x. following limits x.over runs begun) (sym w.1);
}
counted limits (p ∷ ps) over runs begun done d b w =
    elim (cases_Bool p.chunked) [
      | inl c ↦
          let walk = subst (λ x. Walked limits x ps w.2 d) (after_more limits over runs begun p c) w.4 in
          let none : ending_record (following limits over runs begun) p ≡ [] = ap (λ b. if b then [] else record_with (following limits over runs begun).begun p ∷ []) c in
          let t = counted limits ps over runs (begun ++ p ∷ []) w.2 d (go.0 c) walk in
          record {
            all = t.all;
            rest = t.rest;
            pieces_are = sym (append_assoc (all_pieces runs ++ begun) (p ∷ []) ps) ∙ ap (λ x. x ++ ps) (append_assoc (all_pieces runs) begun (p ∷ [])) ∙ t.pieces_are;
            done_are = ap (λ x. map run_record runs ++ x) (w.3 ∙ ap (λ x. x ++ w.2) none) ∙ t.done_are;
            before = t.before;
            known = t.known;
          }
      | inr c ↦
          let r = ended_run begun p in
          let later : after limits (following limits over runs begun) p ≡ following limits p.last (runs ++ r ∷ []) [] =
          after_ended c ∙ outside_more limits p.last runs r in
          let walk = subst (λ x. Walked limits x ps w.2 d) later w.4 in
          let one : ending_record (following limits over runs begun) p ≡ run_record r ∷ [] =
          ap (λ b. if b then [] else record_with (following limits over runs begun).begun p ∷ []) c ∙ ap (λ x. x ∷ []) (ended_item limits over runs begun p) in
          let t = counted limits ps p.last (runs ++ r ∷ []) [] w.2 d (go.1 c) walk in
          record {
            all = t.all;
            rest = t.rest;
            pieces_are = sym (append_assoc (all_pieces runs ++ begun) (p ∷ []) ps) ∙ ap (λ x. x ++ ps) (ended_regroup runs begun p ∙ sym (append-nil (all_pieces (runs ++ r ∷ [])))) ∙ t.pieces_are;
            done_are = ap (λ x. map run_record runs ++ x) (w.3 ∙ ap (λ x. x ++ w.2) one) ∙ sym (append_assoc (map run_record runs) (run_record r ∷ []) w.2) ∙ ap (λ x. x ++ w.2) (sym (map-append run_record runs (r ∷ []))) ∙ t.done_are;
            before = t.before;
            known = t.known;
          }
    ]
  where
    go : (p.chunked ≡ true → AreBefore limits runs (begun ++ p ∷ [])) × (p.chunked ≡ false → AreBefore limits (runs ++ ended_run begun p ∷ []) [])
    go = pieces_go_on limits runs begun p b (subst (λ x. IsConsistentAt x p) (spot_past limits over runs begun) w.1)

    after_ended : p.chunked ≡ false → after limits (following limits over runs begun) p ≡ outside limits false p.last (limits.records - length runs - 1)
    after_ended c =
        let d = following limits over runs begun in
        ap (λ b. if b then inside d.records (d.pieces - 1) (d.room - length p.payload) (record_with d.begun p) else outside limits false p.last (d.records - 1)) c
        ∙ ap (λ n. outside limits false p.last (n - 1)) (records_left limits over runs begun)

-- ---- from the start

walked_whole : (limits : LimitValues) (c : Before) (ps : List Piece) (items : List Item) (d : Before) → Walked limits c ps items d → d.over ≡ true → Walk limits c ps items
walked_whole limits c [] items d w e = (ap (λ x. x.over) (sym w.1) ∙ e, w.0)
walked_whole limits c (p ∷ ps) items d w e = (w.0, w.1, w.2, w.3, walked_whole limits (after limits c p) ps w.2 d w.4 e)

-- ME is clear before the end
none_last : (limits : LimitValues) (c : Before) (ps : List Piece) (items : List Item) (d : Before) → Walked limits c ps items d → d.over ≡ false → NoneLast ps
none_last limits c [] items d w e = tt
none_last limits c (p ∷ []) items d w e = (over_after limits c p false (ap (λ x. x.over) (sym w.4.1) ∙ e) w.1, tt)
none_last limits c (p ∷ q ∷ ps) items d w e = (over_after limits c p false w.4.0 w.1, none_last limits (after limits c p) (q ∷ ps) w.2 d w.4 e)

none_yet : (limits : LimitValues) → AreBefore limits [] []
none_yet limits = record { whole = tt; going_on = tt; runs_are_consistent = tt; begun_are_consistent = tt }

pub walks_are_counted : WalksAreCounted
walks_are_counted limits ps done d w =
    let none_ended : start limits ≡ following limits false [] [] = ap (outside limits true false) (none_less limits.records) in
    let t = counted limits ps false [] [] done d (none_yet limits) (subst (λ x. Walked limits x ps done d) none_ended w) in
    record {
      runs = t.all;
      begun = t.rest;
      pieces_are = t.pieces_are;
      done_are = t.done_are;
      before = t.before;
      spot_is = ap (spot limits.profile) t.known ∙ spot_past limits d.over t.all t.rest;
      known = t.known ∙ after_first limits d.over t.all t.rest ∙ ap (λ x. standing limits x.first d.over (limits.records - length t.all) t.rest) (sym t.known);
      over = λ e. ends ps w e;
      not_over = λ e. none_last limits (start limits) ps done d w e;
    }
  where
    after_first : (limits : LimitValues) (over : Bool) (runs : List Run) (begun : List Piece)
        → following limits over runs begun ≡ standing limits (following limits over runs begun).first over (limits.records - length runs) begun
    after_first limits over runs [] = refl
    after_first limits over runs (q ∷ begun) = refl

    ends : (ps : List Piece) → Walked limits (start limits) ps done d → d.over ≡ true → EndsOnce ps
    ends [] w e = absurd (false≢true (ap (λ x. x.over) (sym w.1) ∙ e))
    ends (p ∷ ps) w e = ends_once limits (start limits) p ps done (walked_whole limits (start limits) (p ∷ ps) done d w e)
