-- The bytes that complete a message, past its heads and within them.
use Rattle.std.proofs.Common.{subst, ◌≡◌, ◌^◌, ℕ, ◌<◌, inl, inr, false, refl, sym, ◌∙◌, ap, arith, List, [], ◌∷◌, ◌++◌, append_assoc}
use Rattle.std.proofs.lemmas.List.{append-nil}
use Rattle.ndef_format.specs.Messages.{all_pieces, Item, SpellsPieces}
use Rattle.ndef_format.specs.Records.{Piece, IsPiece, HeadFields, fields, octets, body}
use Rattle.ndef_format.specs.Limits.{LimitValues}
use Rattle.ndef_format.specs.Positions.{MayOccur, IsOpen}
use Rattle.ndef_piece.specs.Heads.{IsViableHead}
use Rattle.ndef_piece.specs.Walk.{record_with, Before, spot, ending_record, after, Walk}
use Rattle.ndef_piece.specs.Rest.{RestsCanFollow, Rest, RestsSpell, RestsEnd, RestsPastHeads, RestsWithinHeads}
use Rattle.ndef_value.specs.ListLaws.{split_append}
use Rattle.ndef_piece.proofs.PieceHeads.{zero_piece, zero_head, zero_fits, heads_of_pieces, pieces_of_heads}
use Rattle.ndef_piece.proofs.Apart.{heads_are_unambiguous, open_not_past}
use Rattle.ndef_piece.proofs.Walks.{walks_are_messages}
use Rattle.ndef_piece.proofs.WalksOn.{walks_can_end}
use Rattle.std.proofs.lemmas.Bool.{cases_Bool, both_ways}

pub rests_are_flat : RestsSpell
rests_are_flat limits items bytes r = (
  (λ w.
      let m = (walks_are_messages limits w.0 items r).0 w.1 in
      (m.0, record { message = m.2; spelled = subst (λ ps. SpellsPieces ps bytes) m.1 w.2 }, m.3)),
  (λ w. (all_pieces w.0, (walks_are_messages limits (all_pieces w.0) items r).1 (w.0, refl, w.1.message, w.2), w.1.spelled)),
)

pub rests_end : RestsEnd
rests_end limits c bytes items o = (to, λ w. ([], (o, w.1), w.0)) where
  to : Rest limits c bytes items → (bytes ≡ []) × (items ≡ [])
  to w = by_pieces w.0 w.1 w.2 where
    by_pieces : (ps : List Piece) → Walk limits c ps items → SpellsPieces ps bytes → (bytes ≡ []) × (items ≡ [])
    by_pieces [] w s = (s, w.1)
    by_pieces (p ∷ ps) w s = absurd (both_ways c.over w.0 o)

-- the first piece has the head
past : (limits : LimitValues) (c : Before) (f : HeadFields) (bytes : List ℕ) (items : List Item) → c.over ≡ false → MayOccur (spot limits.profile c) f
    → (ps : List Piece) → Walk limits c ps items → SpellsPieces ps (octets f ++ bytes)
    → (p : Piece) × (later : List ℕ) × (rest : List Item) × IsPiece p × (fields p f.short ≡ f) × (bytes ≡ body p ++ later) × (items ≡ ending_record c p ++ rest) × Rest limits (after limits c p) later rest
past limits c f bytes items o m [] w s = absurd (both_ways c.over o w.0)
past limits c f bytes items o m (p ∷ ps) w s =
    let v = s.4 in
    let g = fields p s.0 in
    let n : MayOccur (spot limits.profile c) g = (heads_of_pieces (spot limits.profile c) p s.0 v.piece v.form).0 w.1 in
    let e : octets f ++ bytes ≡ octets g ++ (body p ++ s.2) = s.3 ∙ ap (λ z. z ++ s.2) v.spelled ∙ append_assoc (octets g) (body p) s.2 in
    let q = heads_are_unambiguous f g bytes (body p ++ s.2) m.spelled n.spelled e in
    let short : f.short ≡ s.0 = ap (λ z. z.short) q.0 in
    (p, s.2, w.2, v.piece, ap (fields p) short ∙ sym q.0, q.1, w.3, (ps, w.4, s.5))

pub rests_past_heads : RestsPastHeads
rests_past_heads limits c f bytes items o m = (
  (λ w. past limits c f bytes items o m w.0 w.1 w.2),
  (λ w.
      let p = w.0 in
      let q = pieces_of_heads (spot limits.profile c) f p w.3 w.4 m in
      let e : octets f ++ bytes ≡ (octets f ++ body p) ++ w.1 = ap (λ z. octets f ++ z) w.5 ∙ sym (append_assoc (octets f) (body p) w.1) in
      (p ∷ w.7.0, (o, q.0, w.2, w.6, w.7.1), (f.short, octets f ++ body p, w.1, e, q.1, w.7.2))),
)

-- the first head goes on after an open front
within : (limits : LimitValues) (c : Before) (xs bytes : List ℕ) (items : List Item) → c.over ≡ false → IsOpen (spot limits.profile c) xs
    → (ps : List Piece) → Walk limits c ps items → SpellsPieces ps (xs ++ bytes) → (b : ℕ) × (more : List ℕ) × (bytes ≡ b ∷ more) × IsViableHead (spot limits.profile c) (xs ++ b ∷ [])
within limits c xs bytes items o h [] w s = absurd (both_ways c.over o w.0)
within limits c xs bytes items o h (p ∷ ps) w s =
    let v = s.4 in
    let g = fields p s.0 in
    let n : MayOccur (spot limits.profile c) g = (heads_of_pieces (spot limits.profile c) p s.0 v.piece v.form).0 w.1 in
    let e : octets g ++ (body p ++ s.2) ≡ xs ++ bytes = sym (s.3 ∙ ap (λ z. z ++ s.2) v.spelled ∙ append_assoc (octets g) (body p) s.2) in
    elim (split_append (octets g) (body p ++ s.2) xs bytes e) [
      | inl w ↦ (w.0, w.1 ++ (body p ++ s.2), w.3, (g, record { stands = n; rest = w.1; spelled = w.2 ∙ sym (append_assoc xs (w.0 ∷ []) w.1) }))
      | inr w ↦ absurd (open_not_past (spot limits.profile c) xs h g w.0 n.spelled w.1)
    ]

pub rests_within_heads : RestsWithinHeads
rests_within_heads limits c xs bytes items o h w = within limits c xs bytes items o h w.0 w.1 w.2

-- ---- a message can be completed

-- any message can be completed
pub rest_at : (limits : LimitValues) (d : Before) → d.room < 2 ^ 32 → (bytes : List ℕ) × (items : List Item) × Rest limits d bytes items
rest_at limits d small =
    elim (cases_Bool d.over) [
      | inl o ↦ ([], [], ([], (o, refl), refl))
      | inr o ↦
          let w = walks_can_end limits d [] o tt (omega arith) small in
          let q = w.0 in (
            octets (fields q false) ++ body q,
            record_with d.begun q ∷ [],
            (q ∷ [], w.3, (false, octets (fields q false) ++ body q, [], sym (append-nil _), record { piece = w.1; form = tt; spelled = refl }, refl)),
          )
    ]

-- the room stays below 2 ^ 32
pub room_after : (limits : LimitValues) (c : Before) (p : Piece) → limits.payload < 2 ^ 32 → c.room < 2 ^ 32 → (after limits c p).room < 2 ^ 32
room_after limits c p a b =
    elim (cases_Bool p.chunked) [
      | inl e ↦ rw e (omega (arith, b))
      | inr e ↦ rw e a
    ]

pub rests_can_follow : RestsCanFollow
rests_can_follow limits c f r o small m =
    let p = zero_piece f in
    let l = m.spelled in
    let t = rest_at limits (after limits c p) (room_after limits c p r.payload.1 small) in (
      body p ++ t.0,
      ending_record c p ++ t.1,
      (rests_past_heads limits c f (body p ++ t.0) (ending_record c p ++ t.1) o m).1 (p, t.0, t.1, zero_fits f l, zero_head f, refl, refl, t.2),
    )
