-- The pieces that may come next in a message within the limits.
use Rattle.std.proofs.Common.{◌≡◌, ℕ, ◌-◌, ◌^◌, ◌<◌, ◌≤◌, Bool, true, false, refl, sym, ◌∙◌, subst, arith, List, [], ◌∷◌, ◌++◌, length, append_assoc}
use Rattle.std.proofs.lemmas.List.{append-nil}
use Rattle.ndef_format.specs.Records.{Piece}
use Rattle.ndef_format.specs.Messages.{Item}
use Rattle.ndef_format.specs.Limits.{LimitValues, AreInRange}
use Rattle.ndef_format.specs.Positions.{IsConsistentAt}
use Rattle.ndef_piece.specs.Walk.{Before, start, spot, ending_record, after, Walk, Walked, standing}
use Rattle.ndef_piece.specs.Fronts.{AreMessage, BeginMessage, FrontsHaveSpots}
use Rattle.ndef_piece.proofs.Walks.{walks_are_messages, walks_are_cut}
use Rattle.ndef_piece.proofs.WalksCounted.{walks_are_counted}
use Rattle.ndef_piece.proofs.Remainders.{rest_at, room_after}

-- a walk leads to one place
walked_once : (limits : LimitValues) (c : Before) (ps : List Piece) (items items' : List Item) (d d' : Before) → Walked limits c ps items d → Walked limits c ps items' d' → d ≡ d'
walked_once limits c [] items items' d d' w v = w.1 ∙ sym v.1
walked_once limits c (p ∷ ps) items items' d d' w v = walked_once limits (after limits c p) ps w.2 v.2 d d' w.4 v.4

-- the pieces of a message walk from the start
message_walks : (limits : LimitValues) (ps : List Piece) → AreInRange limits → AreMessage limits ps → (items : List Item) × Walk limits (start limits) ps items
message_walks limits ps r m = (m.1, (walks_are_messages limits ps m.1 r).1 (m.0, m.2, m.3, m.4))

-- and back
walk_message : (limits : LimitValues) (ps : List Piece) (items : List Item) → AreInRange limits → Walk limits (start limits) ps items → AreMessage limits ps
walk_message limits ps items r w =
    let m = (walks_are_messages limits ps items r).0 w in
    (m.0, items, m.1, m.2, m.3)

-- after the pieces of a walk, a walk from where it leads
walks_join : (limits : LimitValues) (ps qs : List Piece) (done rest : List Item) (d : Before) → Walked limits (start limits) ps done d → Walk limits d qs rest
    → Walk limits (start limits) (ps ++ qs) (done ++ rest)
walks_join limits ps qs done rest d w v = (walks_are_cut limits (start limits) ps qs (done ++ rest)).1 (done, rest, d, refl, w, v)

-- and back, where the first walk is known
walk_goes_on : (limits : LimitValues) (ps qs : List Piece) (done items : List Item) (d : Before) → Walked limits (start limits) ps done d → Walk limits (start limits) (ps ++ qs) items
    → (rest : List Item) × Walk limits d qs rest
walk_goes_on limits ps qs done items d w v =
    let t = (walks_are_cut limits (start limits) ps qs items).0 v in
    (t.1, subst (λ c. Walk limits c qs t.1) (walked_once limits (start limits) ps t.0 done t.2 d t.4 w) t.5)

-- the room never grows beyond the limit
standing_room : (limits : LimitValues) (first over : Bool) (n : ℕ) (begun : List Piece) → (standing limits first over n begun).room ≤ limits.payload
standing_room limits first over n [] = omega arith
standing_room limits first over n (p ∷ ps) = omega arith

-- after all the pieces the message is over
whole : (limits : LimitValues) (ps : List Piece) (done : List Item) (d : Before) → AreInRange limits → Walked limits (start limits) ps done d
    → (d.over ≡ true → AreMessage limits ps) × (AreMessage limits ps → d.over ≡ true)
whole limits ps done d r w = (
  (λ o. subst (AreMessage limits) (append-nil ps) (walk_message limits (ps ++ []) (done ++ []) r (walks_join limits ps [] done [] d w (o, refl)))),
  (λ m.
      let v = message_walks limits ps r m in
      (walk_goes_on limits ps [] done v.0 d w (subst (λ x. Walk limits (start limits) x v.0) (sym (append-nil ps)) v.1)).1.0),
)

-- the piece that may come next stands where the walk leads
next : (limits : LimitValues) (ps : List Piece) (done : List Item) (d : Before) (p : Piece) → AreInRange limits → d.room < 2 ^ 32 → Walked limits (start limits) ps done d
    → (BeginMessage limits (ps ++ p ∷ []) → (d.over ≡ false) × IsConsistentAt (spot limits.profile d) p)
    × ((d.over ≡ false) × IsConsistentAt (spot limits.profile d) p → BeginMessage limits (ps ++ p ∷ []))
next limits ps done d p r small w = (
  (λ m.
      let v = message_walks limits ((ps ++ p ∷ []) ++ m.0) r m.1 in
      let t = walk_goes_on limits ps (p ∷ m.0) done v.0 d w (subst (λ x. Walk limits (start limits) x v.0) (append_assoc ps (p ∷ []) m.0) v.1) in
      (t.1.0, t.1.1)),
  (λ s.
      let t = rest_at limits (after limits d p) (room_after limits d p r.payload.1 small) in
      let v = walks_join limits ps (p ∷ t.2.0) done (ending_record d p ++ t.1) d w (s.0, s.1, t.1, refl, t.2.1) in (
        t.2.0,
        walk_message limits ((ps ++ p ∷ []) ++ t.2.0) (done ++ (ending_record d p ++ t.1)) r
            (subst (λ x. Walk limits (start limits) x (done ++ (ending_record d p ++ t.1))) (sym (append_assoc ps (p ∷ []) t.2.0)) v),
      )),
)

pub fronts_have_spots : FrontsHaveSpots
fronts_have_spots limits ps r m =
    let v = message_walks limits (ps ++ m.0) r m.1 in
    let t = (walks_are_cut limits (start limits) ps m.0 v.0).0 v.1 in
    let d = t.2 in
    let k = walks_are_counted limits ps t.0 d t.4 in
    let room : d.room ≤ limits.payload = subst (λ c. c.room ≤ limits.payload) (sym k.known) (standing_room limits d.first d.over (limits.records - length k.runs) k.begun) in
    let most = r.payload.1 in
    record {
      runs = k.runs;
      begun = k.begun;
      over = d.over;
      pieces_are = k.pieces_are;
      whole = whole limits ps t.0 d r t.4;
      next = λ p.
          (let n = next limits ps t.0 d p r (omega (arith, room, most)) t.4 in (
            (λ b. let s = n.0 b in (s.0, subst (λ x. IsConsistentAt x p) k.spot_is s.1)),
            (λ s. n.1 (s.0, subst (λ x. IsConsistentAt x p) (sym k.spot_is) s.1)),
          ));
    }
