-- The octets so far are at one field.
use Rattle.std.proofs.Common.{◌≡◌, ℕ, ◌+◌, Bool, true, List, [], ◌∷◌, ◌++◌, length, length-append, refl, sym, ◌∙◌, ap, arith, append_assoc, append-nil}
use Rattle.std.specs.Prelude.{unwrap_or}
use Rattle.std.specs.List.{AllByRecursion}
use Rattle.std.proofs.lemmas.Bool.{false≢true}
use Rattle.ndef_value.specs.ListLaws.{cut_alike}
use Rattle.ndef_value.specs.PieceLaws.{same_body, follow_once, same_run}
use Rattle.ndef_format.specs.Records.{Piece, SpellsPiece, HeadFields, fields, octets, body, Run, Follow}
use Rattle.ndef_format.specs.Messages.{SpellsPieces, all_pieces, EndsOnce}
use Rattle.ndef_format.specs.declared.spot.Spot.{Spot}
use Rattle.ndef_format.specs.Positions.{CanBeSpelled, IsOpen, Field, InHead, InType, InId, InPayload, AtEnd, octets_so_far, IsProper, EndsAt, NoneLast}
use Rattle.ndef_piece.specs.Field.{OneField}
use Rattle.ndef_piece.proofs.Apart.{heads_are_unambiguous}
use Rattle.ndef_piece.proofs.PieceHeads.{id_length}

-- ---- pieces

-- the head of a piece
piece_head : (p : Piece) (short : Bool) (bytes : List ℕ) → SpellsPiece p short bytes → CanBeSpelled (fields p short)
piece_head p short bytes s = record { tnf = s.piece.tnf; kind = s.piece.kind_length; payload = s.piece.payload_length; form = s.form; id = rw (id_length p.id) s.piece.id_length }

body_length : (p : Piece) → length (body p) ≡ length p.kind + length (unwrap_or p.id []) + length p.payload
body_length p = omega (arith, length-append p.kind (unwrap_or p.id [] ++ p.payload), length-append (unwrap_or p.id []) p.payload)

-- two spelled pieces at the front of the same octets are one
same_piece : (p q : Piece) (s t : Bool) (x y a b : List ℕ) → SpellsPiece p s x → SpellsPiece q t y → x ++ a ≡ y ++ b → (p ≡ q) × (a ≡ b)
same_piece p q s t x y a b h k e =
    let f : octets (fields p s) ++ (body p ++ a) ≡ octets (fields q t) ++ (body q ++ b) =
    sym (append_assoc (octets (fields p s)) (body p) a) ∙ ap (λ z. z ++ a) (sym h.spelled) ∙ e ∙ ap (λ z. z ++ b) k.spelled ∙ append_assoc (octets (fields q t)) (body q) b in
    let w = heads_are_unambiguous (fields p s) (fields q t) (body p ++ a) (body q ++ b) (piece_head p s x h) (piece_head q t y k) f in
    same_body p q s a b (w.0 ∙ ap (fields q) (sym (ap (λ z. z.short) w.0))) w.1

-- ---- fields

abbrev kinds_of : HeadFields → ℕ
kinds_of f = f.kind_length

abbrev ids_of : HeadFields → ℕ
ids_of f = unwrap_or f.id_length 0

abbrev payloads_of : HeadFields → ℕ
payloads_of f = f.payload_length

-- a head that has begun doesn't hold a whole one
not_in_head : (spot : Spot) (xs rest : List ℕ) (f : HeadFields) → IsOpen spot xs → CanBeSpelled f → xs ≡ octets f ++ rest → ⊥
not_in_head spot xs rest f o s e =
    let more = o.next ∷ o.rest in
    let g : octets o.fields ++ [] ≡ octets f ++ (rest ++ more) = append-nil (octets o.fields) ∙ o.spelled ∙ ap (λ z. z ++ more) e ∙ append_assoc (octets f) rest more in
    let w = heads_are_unambiguous o.fields f [] (rest ++ more) o.stands.spelled s g in
    omega (arith, ap length w.1, length-append rest more)

-- the octets of a field don't go past a piece
no_overrun : (spot : Spot) (field : Field) (p : Piece) (short : Bool) (bytes rest : List ℕ) → IsProper spot field → SpellsPiece p short bytes → octets_so_far field ≡ bytes ++ rest → ⊥
no_overrun spot (InHead xs) p short bytes rest at s e =
    not_in_head spot xs (body p ++ rest) (fields p short) at (piece_head p short bytes s)
    (e ∙ ap (λ z. z ++ rest) s.spelled ∙ append_assoc (octets (fields p short)) (body p) rest)
no_overrun spot (InType f n) p short bytes rest at s e =
    let g : octets f ++ n ≡ octets (fields p short) ++ (body p ++ rest) = e ∙ ap (λ z. z ++ rest) s.spelled ∙ append_assoc (octets (fields p short)) (body p) rest in
    let w = heads_are_unambiguous f (fields p short) n (body p ++ rest) at.0.stands.spelled (piece_head p short bytes s) g in
    omega (arith, at.1, ap kinds_of w.0, ap length w.1, length-append (body p) rest, body_length p)
no_overrun spot (InId f n i) p short bytes rest at s e =
    let g : octets f ++ (n ++ i) ≡ octets (fields p short) ++ (body p ++ rest) = e ∙ ap (λ z. z ++ rest) s.spelled ∙ append_assoc (octets (fields p short)) (body p) rest in
    let w = heads_are_unambiguous f (fields p short) (n ++ i) (body p ++ rest) at.0.stands.spelled (piece_head p short bytes s) g in
    omega (arith, at.1, at.2, ap kinds_of w.0, ap ids_of w.0, id_length p.id, ap length w.1, length-append n i, length-append (body p) rest, body_length p)
no_overrun spot (InPayload f n i c) p short bytes rest at s e =
    let g : octets f ++ (n ++ (i ++ c)) ≡ octets (fields p short) ++ (body p ++ rest) = e ∙ ap (λ z. z ++ rest) s.spelled ∙ append_assoc (octets (fields p short)) (body p) rest in
    let w = heads_are_unambiguous f (fields p short) (n ++ (i ++ c)) (body p ++ rest) at.0.stands.spelled (piece_head p short bytes s) g in
    omega (arith, at.1, at.2, at.3, ap kinds_of w.0, ap ids_of w.0, ap payloads_of w.0, id_length p.id, ap length w.1, length-append n (i ++ c), length-append i c, length-append (body p) rest, body_length p)
no_overrun spot AtEnd p short bytes rest at s e =
    let g : [] ≡ octets (fields p short) ++ (body p ++ rest) = e ∙ ap (λ z. z ++ rest) s.spelled ∙ append_assoc (octets (fields p short)) (body p) rest in
    cc

-- a message that has ended doesn't go on
not_both : (ps : List Piece) → EndsOnce ps → NoneLast ps → ⊥
not_both [] e n = e
not_both (p ∷ []) e n = false≢true (sym n.0 ∙ e)
not_both (p ∷ q ∷ ps) e n = not_both (q ∷ ps) e.1 n.1

module _ (ps : List Piece) (spot other : Spot) where
  same_field : (p q : Field) → EndsAt p ps → EndsAt q ps → IsProper spot p → IsProper other q → octets_so_far p ≡ octets_so_far q → p ≡ q
  same_field AtEnd AtEnd h k at to e = refl
  same_field AtEnd (InHead ys) h k at to e = absurd (not_both ps h k)
  same_field AtEnd (InType g m) h k at to e = absurd (not_both ps h k)
  same_field AtEnd (InId g m j) h k at to e = absurd (not_both ps h k)
  same_field AtEnd (InPayload g m j d) h k at to e = absurd (not_both ps h k)
  same_field (InHead xs) AtEnd h k at to e = absurd (not_both ps k h)
  same_field (InType f n) AtEnd h k at to e = absurd (not_both ps k h)
  same_field (InId f n i) AtEnd h k at to e = absurd (not_both ps k h)
  same_field (InPayload f n i c) AtEnd h k at to e = absurd (not_both ps k h)
  same_field (InHead xs) (InHead ys) h k at to e = ap InHead e
  same_field (InHead xs) (InType g m) h k at to e = absurd (not_in_head spot xs m g at to.0.stands.spelled e)
  same_field (InHead xs) (InId g m j) h k at to e = absurd (not_in_head spot xs (m ++ j) g at to.0.stands.spelled e)
  same_field (InHead xs) (InPayload g m j d) h k at to e = absurd (not_in_head spot xs (m ++ (j ++ d)) g at to.0.stands.spelled e)
  same_field (InType f n) (InHead ys) h k at to e = absurd (not_in_head other ys n f to at.0.stands.spelled (sym e))
  same_field (InId f n i) (InHead ys) h k at to e = absurd (not_in_head other ys (n ++ i) f to at.0.stands.spelled (sym e))
  same_field (InPayload f n i c) (InHead ys) h k at to e = absurd (not_in_head other ys (n ++ (i ++ c)) f to at.0.stands.spelled (sym e))
  same_field (InType f n) (InType g m) h k at to e =
      let w = heads_are_unambiguous f g n m at.0.stands.spelled to.0.stands.spelled e in
      (λ z. InType (w.0 z) (w.1 z))
  same_field (InType f n) (InId g m j) h k at to e =
      let w = heads_are_unambiguous f g n (m ++ j) at.0.stands.spelled to.0.stands.spelled e in
      absurd (omega (arith, at.1, to.1, ap kinds_of w.0, ap length w.1, length-append m j))
  same_field (InType f n) (InPayload g m j d) h k at to e =
      let w = heads_are_unambiguous f g n (m ++ (j ++ d)) at.0.stands.spelled to.0.stands.spelled e in
      absurd (omega (arith, at.1, to.1, ap kinds_of w.0, ap length w.1, length-append m (j ++ d)))
  same_field (InId f n i) (InType g m) h k at to e =
      let w = heads_are_unambiguous f g (n ++ i) m at.0.stands.spelled to.0.stands.spelled e in
      absurd (omega (arith, at.1, to.1, ap kinds_of w.0, ap length w.1, length-append n i))
  same_field (InPayload f n i c) (InType g m) h k at to e =
      let w = heads_are_unambiguous f g (n ++ (i ++ c)) m at.0.stands.spelled to.0.stands.spelled e in
      absurd (omega (arith, at.1, to.1, ap kinds_of w.0, ap length w.1, length-append n (i ++ c)))
  same_field (InId f n i) (InId g m j) h k at to e =
      let w = heads_are_unambiguous f g (n ++ i) (m ++ j) at.0.stands.spelled to.0.stands.spelled e in
      let u = cut_alike n m i j (at.1 ∙ ap kinds_of w.0 ∙ sym to.1) w.1 in
      (λ z. InId (w.0 z) (u.0 z) (u.1 z))
  same_field (InId f n i) (InPayload g m j d) h k at to e =
      let w = heads_are_unambiguous f g (n ++ i) (m ++ (j ++ d)) at.0.stands.spelled to.0.stands.spelled e in
      let u = cut_alike n m i (j ++ d) (at.1 ∙ ap kinds_of w.0 ∙ sym to.1) w.1 in
      absurd (omega (arith, at.2, to.2, ap ids_of w.0, ap length u.1, length-append j d))
  same_field (InPayload f n i c) (InId g m j) h k at to e =
      let w = heads_are_unambiguous f g (n ++ (i ++ c)) (m ++ j) at.0.stands.spelled to.0.stands.spelled e in
      let u = cut_alike n m (i ++ c) j (at.1 ∙ ap kinds_of w.0 ∙ sym to.1) w.1 in
      absurd (omega (arith, at.2, to.2, ap ids_of w.0, ap length u.1, length-append i c))
  same_field (InPayload f n i c) (InPayload g m j d) h k at to e =
      let w = heads_are_unambiguous f g (n ++ (i ++ c)) (m ++ (j ++ d)) at.0.stands.spelled to.0.stands.spelled e in
      let u = cut_alike n m (i ++ c) (j ++ d) (at.1 ∙ ap kinds_of w.0 ∙ sym to.1) w.1 in
      let v = cut_alike i j c d (at.2 ∙ ap ids_of w.0 ∙ sym to.2) u.1 in
      (λ z. InPayload (w.0 z) (u.0 z) (v.0 z) (v.1 z))

-- ---- the pieces before a field

-- pieces at the front of the same octets, with no further piece after them, are the same
same_pieces : (spot other : Spot) (p q : Field) → IsProper spot p → IsProper other q → (d e : List Piece) (a b : List ℕ) → SpellsPieces d a → SpellsPieces e b
    → a ++ octets_so_far p ≡ b ++ octets_so_far q → (d ≡ e) × (octets_so_far p ≡ octets_so_far q)
same_pieces spot other p q at to [] [] a b h k f = (refl, sym (ap (λ z. z ++ octets_so_far p) h) ∙ f ∙ ap (λ z. z ++ octets_so_far q) k)
same_pieces spot other p q at to [] (g ∷ e) a b h k f =
    absurd (no_overrun spot p g k.0 k.1 (k.2 ++ octets_so_far q) at k.4
    (sym (ap (λ z. z ++ octets_so_far p) h) ∙ f ∙ ap (λ z. z ++ octets_so_far q) k.3 ∙ append_assoc k.1 k.2 (octets_so_far q)))
same_pieces spot other p q at to (c ∷ d) [] a b h k f =
    absurd (no_overrun other q c h.0 h.1 (h.2 ++ octets_so_far p) to h.4
    (sym (ap (λ z. z ++ octets_so_far q) k) ∙ sym f ∙ ap (λ z. z ++ octets_so_far p) h.3 ∙ append_assoc h.1 h.2 (octets_so_far p)))
same_pieces spot other p q at to (c ∷ d) (g ∷ e) a b h k f =
    let l : h.1 ++ (h.2 ++ octets_so_far p) ≡ k.1 ++ (k.2 ++ octets_so_far q) =
    sym (append_assoc h.1 h.2 (octets_so_far p)) ∙ ap (λ z. z ++ octets_so_far p) (sym h.3) ∙ f ∙ ap (λ z. z ++ octets_so_far q) k.3 ∙ append_assoc k.1 k.2 (octets_so_far q) in
    let w = same_piece c g h.0 k.0 h.1 k.1 (h.2 ++ octets_so_far p) (k.2 ++ octets_so_far q) h.4 k.4 l in
    let v = same_pieces spot other p q at to d e h.2 k.2 h.5 k.5 w.1 in
    ((let m = w.0 in let n = v.0 in cc), v.1)

-- ---- their runs

-- a run that has ended is not within an open one
not_open : (c : Bool) (l x rest : List Piece) → c ≡ true → Follow c l → AllByRecursion (λ p. p.chunked ≡ true) x → x ≡ l ++ rest → ⊥
not_open c [] x rest t f g e = false≢true (sym f ∙ t)
not_open c (p ∷ l) [] rest t f g e = cc
not_open c (p ∷ l) (q ∷ x) rest t f g e =
    let same : q ≡ p = cc in
    let more : x ≡ l ++ rest = cc in
    not_open p.chunked l x rest (sym (ap (λ z. z.chunked) same) ∙ g.0) f.2 g.1 more

not_begun : (r : Run) (x rest : List Piece) → Follow r.initial.chunked r.later → AllByRecursion (λ p. p.chunked ≡ true) x → x ≡ r.initial ∷ (r.later ++ rest) → ⊥
not_begun r [] rest f g e = cc
not_begun r (q ∷ x) rest f g e =
    let same : q ≡ r.initial = cc in
    let more : x ≡ r.later ++ rest = cc in
    not_open r.initial.chunked r.later x rest (sym (ap (λ z. z.chunked) same) ∙ g.0) f g.1 more

-- CF separates the runs of pieces
same_runs : (rs ss : List Run) (x y : List Piece) → AllByRecursion (λ r. Follow r.initial.chunked r.later) rs → AllByRecursion (λ r. Follow r.initial.chunked r.later) ss
    → AllByRecursion (λ p. p.chunked ≡ true) x → AllByRecursion (λ p. p.chunked ≡ true) y → all_pieces rs ++ x ≡ all_pieces ss ++ y → (rs ≡ ss) × (x ≡ y)
same_runs [] [] x y a b g h e = (refl, e)
same_runs [] (s ∷ ss) x y a b g h e =
    absurd (not_begun s x (all_pieces ss ++ y) b.0 g (e ∙ ap (λ z. s.initial ∷ z) (append_assoc s.later (all_pieces ss) y)))
same_runs (r ∷ rs) [] x y a b g h e =
    absurd (not_begun r y (all_pieces rs ++ x) a.0 h (sym e ∙ ap (λ z. r.initial ∷ z) (append_assoc r.later (all_pieces rs) x)))
same_runs (r ∷ rs) (s ∷ ss) x y a b g h e =
    let f : r.initial ∷ (r.later ++ (all_pieces rs ++ x)) ≡ s.initial ∷ (s.later ++ (all_pieces ss ++ y)) =
    ap (λ z. r.initial ∷ z) (sym (append_assoc r.later (all_pieces rs) x)) ∙ e ∙ ap (λ z. s.initial ∷ z) (append_assoc s.later (all_pieces ss) y) in
    let i : r.initial ≡ s.initial = cc in
    let l : r.later ++ (all_pieces rs ++ x) ≡ s.later ++ (all_pieces ss ++ y) = cc in
    let w = follow_once r.initial.chunked s.initial.chunked r.later s.later _ _ (ap (λ z. z.chunked) i) a.0 b.0 l in
    let v = same_runs rs ss x y a.1 b.1 g h w.1 in
    let k = same_run r s i w.0 in
    ((let n = v.0 in cc), v.1)

pub one_field : OneField
one_field limits bytes runs others begun opened p q x y =
    let w = same_pieces _ _ p q x.proper y.proper _ _ x.front y.front x.spelled y.spelled (sym x.split ∙ y.split) in
    let r = same_runs runs others begun opened x.before.whole y.before.whole x.before.going_on y.before.going_on w.0 in
    (r.0, r.1, same_field (all_pieces runs ++ begun) _ _ p q x.ends (rw w.0 y.ends) x.proper y.proper w.1)
