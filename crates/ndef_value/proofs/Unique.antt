-- A byte string spells at most one message, and no spelling begins another.
use Rattle.std.proofs.Common.{◌≡◌, ℕ, ◌+◌, ◌*◌, ◌/◌, ◌%◌, ◌^◌, ◌<◌, Bool, true, false, refl, sym, ◌∙◌, ap, arith, List, [], ◌∷◌, ◌++◌, length, map, Option, Some, None, append_assoc}
use Rattle.std.specs.Prelude.{is_some}
use Rattle.std.specs.Option.{option_map}
use Rattle.std.specs.List.{AllByRecursion}
use Rattle.std.specs.Int.{w32, to_be_bytes}
use Rattle.std.proofs.lemmas.List.{append-nil}
use Rattle.ndef_value.specs.PieceLaws.{same_body, same_fields, follow_once, same_run}
use Rattle.ndef_value.specs.ProfileLaws.{strict_spelling}
use Rattle.ndef_format.specs.Records.{bit, header_octet, payload_length_octets, id_length_octets, octets, fields, body, Piece, SpellsPiece, Run, IsRun}
use Rattle.ndef_format.specs.Messages.{all_pieces, run_record, EndsOnce, SpellsPieces}
use Rattle.ndef_format.specs.Laws.{OneMeaning, StrictIsRead}
use Rattle.ndef_format.specs.declared.profile.Profile.{Profile}

-- ---- the header octet
bit_small : (b : Bool) → bit b < 2
bit_small true = omega arith
bit_small false = omega arith

same_bit : (b c : Bool) → bit b ≡ bit c → b ≡ c
same_bit true true e = refl
same_bit true false e = cc
same_bit false true e = cc
same_bit false false e = refl

same_digits : (b e c s i t b' e' c' s' i' t' : ℕ) → b < 2 → e < 2 → c < 2 → s < 2 → i < 2 → t < 8 → b' < 2 → e' < 2 → c' < 2 → s' < 2 → i' < 2 → t' < 8
    → 128 * b + 64 * e + 32 * c + 16 * s + 8 * i + t ≡ 128 * b' + 64 * e' + 32 * c' + 16 * s' + 8 * i' + t'
    → (b ≡ b') × (e ≡ e') × (c ≡ c') × (s ≡ s') × (i ≡ i') × (t ≡ t')
same_digits b e c s i t b' e' c' s' i' t' h1 h2 h3 h4 h5 h6 g1 g2 g3 g4 g5 g6 q =
    let q1 : b ≡ b' = omega arith in
    let q2 : e ≡ e' = omega arith in
    let q3 : c ≡ c' = omega arith in
    let q4 : s ≡ s' = omega arith in
    let q5 : i ≡ i' = omega arith in
    (q1, q2, q3, q4, q5, omega arith)

same_header : (b e c s i : Bool) (t : ℕ) (b' e' c' s' i' : Bool) (t' : ℕ) → t < 8 → t' < 8 → header_octet b e c s i t ≡ header_octet b' e' c' s' i' t'
    → (b ≡ b') × (e ≡ e') × (c ≡ c') × (s ≡ s') × (i ≡ i') × (t ≡ t')
same_header b e c s i t b' e' c' s' i' t' h h' q =
    let d = same_digits (bit b) (bit e) (bit c) (bit s) (bit i) t (bit b') (bit e') (bit c') (bit s') (bit i') t'
    (bit_small b) (bit_small e) (bit_small c) (bit_small s) (bit_small i) h (bit_small b') (bit_small e') (bit_small c') (bit_small s') (bit_small i') h' q in
    (same_bit b b' d.0, same_bit e e' d.1, same_bit c c' d.2, same_bit s s' d.3, same_bit i i' d.4, d.5)

-- ---- the lengths
same_big : (n m : ℕ) → n < 2 ^ 32 → m < 2 ^ 32 → (x y : List ℕ) → to_be_bytes w32 n ++ x ≡ to_be_bytes w32 m ++ y → (n ≡ m) × (x ≡ y)
same_big n m f g x y e =
    let e3 : n / 16777216 % 256 ≡ m / 16777216 % 256 = cc in
    let e2 : n / 65536 % 256 ≡ m / 65536 % 256 = cc in
    let e1 : n / 256 % 256 ≡ m / 256 % 256 = cc in
    let e0 : n % 256 ≡ m % 256 = cc in
    (omega arith, cc)

same_length : (s : Bool) (n m : ℕ) → n < 2 ^ 32 → m < 2 ^ 32 → (x y : List ℕ) → payload_length_octets s n ++ x ≡ payload_length_octets s m ++ y → (n ≡ m) × (x ≡ y)
same_length true n m f g x y e = (cc, cc)
same_length false n m f g x y e = same_big n m f g x y e

same_id_length : (i j : Option ℕ) → is_some i ≡ is_some j → (x y : List ℕ) → id_length_octets i ++ x ≡ id_length_octets j ++ y → (i ≡ j) × (x ≡ y)
same_id_length None None s x y e = (refl, e)
same_id_length None (Some b) s x y e = cc
same_id_length (Some a) None s x y e = cc
same_id_length (Some a) (Some b) s x y e = ((let f : a ≡ b = cc in ap Some f), cc)

-- ---- the pieces

laid : (h k : ℕ) (l i b x : List ℕ) → ((h ∷ k ∷ (l ++ i)) ++ b) ++ x ≡ h ∷ k ∷ (l ++ (i ++ (b ++ x)))
laid h k l i b x = simp append_assoc

-- two spelled pieces at the front of the same bytes are one
piece_once : (p q : Piece) (s t : Bool) (f g x y : List ℕ) → SpellsPiece p s f → SpellsPiece q t g → f ++ x ≡ g ++ y → (p ≡ q) × (x ≡ y)
piece_once p q s t f g x y a b e =
    let following = λ (p : Piece) (s : Bool) (x : List ℕ). payload_length_octets s (length p.payload) ++ (id_length_octets (option_map length p.id) ++ (body p ++ x)) in
    let lay = λ (p : Piece) (s : Bool) (x : List ℕ). header_octet p.first p.last p.chunked s (is_some (option_map length p.id)) p.tnf ∷ length p.kind ∷ following p s x in
    let regroup = λ (p : Piece) (s : Bool) (x : List ℕ). (let r : (octets (fields p s) ++ body p) ++ x ≡ lay p s x = laid _ _ (payload_length_octets s (length p.payload)) (id_length_octets (option_map length p.id)) (body p) x in r) in
    let whole : lay p s x ≡ lay q t y = sym (regroup p s x) ∙ ap (λ z. z ++ x) (sym a.spelled) ∙ e ∙ ap (λ z. z ++ y) b.spelled ∙ regroup q t y in
    let w1 : header_octet p.first p.last p.chunked s (is_some (option_map length p.id)) p.tnf ≡ header_octet q.first q.last q.chunked t (is_some (option_map length q.id)) q.tnf = cc in
    let w2 : length p.kind ≡ length q.kind = cc in
    let w3 : following p s x ≡ following q t y = cc in
    let h = same_header _ _ _ _ _ _ _ _ _ _ _ _ a.piece.tnf b.piece.tnf w1 in
    let w4 : following p s x ≡ following q s y = w3 ∙ ap (λ u. following q u y) (sym h.3) in
    let l = same_length s (length p.payload) (length q.payload) a.piece.payload_length b.piece.payload_length _ _ w4 in
    let i = same_id_length (option_map length p.id) (option_map length q.id) h.4 _ _ l.1 in
    same_body p q s x y (same_fields _ _ _ _ _ _ s _ _ _ _ _ _ _ _ h.0 h.1 h.2 h.5 w2 l.0 i.0) i.1

clash : (x : Bool) → x ≡ true → x ≡ false → ⊥
clash true e f = cc
clash false e f = cc

first_once : (p q : Piece) (ps qs : List Piece) (f g x y : List ℕ) (s : SpellsPieces (p ∷ ps) f) (t : SpellsPieces (q ∷ qs) g) → f ++ x ≡ g ++ y
    → (p ≡ q) × (s.2 ++ x ≡ t.2 ++ y)
first_once p q ps qs f g x y s t e =
    piece_once p q s.0 t.0 s.1 t.1 (s.2 ++ x) (t.2 ++ y) s.4 t.4
    (sym (append_assoc s.1 s.2 x) ∙ ap (λ z. z ++ x) (sym s.3) ∙ e ∙ ap (λ z. z ++ y) t.3 ∙ append_assoc t.1 t.2 y)

-- two spelled lists of pieces at the front of the same bytes are one, if each ends with its only last piece
pieces_once : (ps qs : List Piece) (f g x y : List ℕ) → EndsOnce ps → EndsOnce qs → SpellsPieces ps f → SpellsPieces qs g → f ++ x ≡ g ++ y → (ps ≡ qs) × (x ≡ y)
pieces_once [] qs f g x y a b s t e = absurd a
pieces_once (p ∷ ps) [] f g x y a b s t e = absurd b
pieces_once (p ∷ []) (q ∷ []) f g x y a b s t e =
    let w = first_once p q [] [] f g x y s t e in
    (ap (λ z. z ∷ []) w.0, ap (λ z. z ++ x) (sym s.5) ∙ w.1 ∙ ap (λ z. z ++ y) t.5)
pieces_once (p ∷ []) (q ∷ q2 ∷ qs) f g x y a b s t e =
    let w = first_once p q [] (q2 ∷ qs) f g x y s t e in
    absurd (clash p.last a (ap (λ z. z.last) w.0 ∙ b.0))
pieces_once (p ∷ p2 ∷ ps) (q ∷ []) f g x y a b s t e =
    let w = first_once p q (p2 ∷ ps) [] f g x y s t e in
    absurd (clash p.last (ap (λ z. z.last) w.0 ∙ b) a.0)
pieces_once (p ∷ p2 ∷ ps) (q ∷ q2 ∷ qs) f g x y a b s t e =
    let w = first_once p q (p2 ∷ ps) (q2 ∷ qs) f g x y s t e in
    let r = pieces_once (p2 ∷ ps) (q2 ∷ qs) s.2 t.2 x y a.1 b.1 s.5 t.5 w.1 in
    (ap (λ z. z ∷ p2 ∷ ps) w.0 ∙ ap (λ l. q ∷ l) r.0, r.1)

-- ---- the runs
runs_once : (p q : Profile) (rs ss : List Run) → AllByRecursion (IsRun p) rs → AllByRecursion (IsRun q) ss → all_pieces rs ≡ all_pieces ss → rs ≡ ss
runs_once p q [] [] a b e = refl
runs_once p q [] (s ∷ ss) a b e = cc
runs_once p q (r ∷ rs) [] a b e = cc
runs_once p q (r ∷ rs) (s ∷ ss) a b e =
    let f : r.initial ≡ s.initial = cc in
    let g : r.later ++ all_pieces rs ≡ s.later ++ all_pieces ss = cc in
    let w = follow_once _ _ r.later s.later _ _ (ap (λ z. z.chunked) f) a.0.follow b.0.follow g in
    let h = runs_once p q rs ss a.1 b.1 w.1 in
    let k = same_run r s f w.0 in
    cc

pub one_meaning : OneMeaning
one_meaning p q m n front whole rest a b e =
    let x = a.1 in
    let y = b.1 in
    let w = pieces_once _ _ front whole rest [] x.message.ends y.message.ends x.spelled y.spelled (sym e ∙ sym (append-nil whole)) in
    (sym x.message.items ∙ ap (map run_record) (runs_once p q a.0 b.0 x.message.each_run y.message.each_run w.0) ∙ y.message.items, w.1)

-- ---- profiles

pub strict_is_read : StrictIsRead
strict_is_read profile m bytes a = (a.0, strict_spelling profile a.0 m bytes a.1)
