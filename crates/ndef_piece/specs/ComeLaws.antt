-- The parts of a piece, by the octets that have come of it.
use Rattle.std.proofs.Common.{◌≡◌, ℕ, zero, suc, ◌+◌, ◌-◌, ◌^◌, ◌<◌, ◌≤◌, Bool, true, false, refl, sym, ◌∙◌, ap, ap₂, subst, arith, Option, Some, None, List, [], ◌∷◌, ◌++◌, length, take, drop, take_at, drop_at, append_assoc, length-append}
use Rattle.std.specs.Prelude.{slice_index, unwrap_or, is_some, if◌then◌else◌}
use Rattle.std.proofs.lemmas.List.{drop-drop}
use Rattle.std.proofs.Math.ListN.{drop_of_length-le}
use Rattle.std.proofs.lemmas.Nat.{from_be_bytes-to_be_bytes_4}
use Rattle.ndef_value.specs.ListLaws.{cut_alike}
use Rattle.ndef_format.specs.Records.{HeadFields, Piece, SpellsPiece, fields, octets, body, payload_length_octets, id_length_octets}
use Rattle.ndef_format.specs.HeadReasons.{is_set, width}
use Rattle.ndef_format.specs.Positions.{CanBeSpelled}
use Rattle.ndef_piece.specs.HeaderLaws.{header, header_parts, id_count, octets_size}
use Rattle.ndef_piece.specs.Come.{body_given, content_come, fronts, fronts_from, id_come, id_given, id_length_come, id_length_width, kind_come, lengths_width, payload_length_at, payload_length_come, size_come}

-- ---- a head, and what follows it
form_width : (short : Bool) (n : ℕ) → length (payload_length_octets short n) ≡ (if short then 1 else 4)
form_width true n = refl
form_width false n = refl

there_width : (o : Option ℕ) → length (id_length_octets o) ≡ (if is_some o then 1 else 0)
there_width None = refl
there_width (Some d) = refl

id_read : (short : Bool) (n : ℕ) (o : Option ℕ) (z : List ℕ)
    → (if is_some o
    then slice_index ((payload_length_octets short n ++ id_length_octets o) ++ z) (if short then 1 else 4)
    else 0) ≡ unwrap_or o 0
id_read true n None z = refl
id_read true n (Some d) z = refl
id_read false n None z = refl
id_read false n (Some d) z = refl

length_read : (short : Bool) (n : ℕ) (o : Option ℕ) (h k : ℕ) (z : List ℕ) → n < 2 ^ 32
    → payload_length_at short ((h ∷ k ∷ (payload_length_octets short n ++ id_length_octets o)) ++ z) ≡ n
length_read true n o h k z l = refl
length_read false n o h k z l = from_be_bytes-to_be_bytes_4 n l

-- the lengths of a piece with this head, and what follows them
pub record HeadCome (f : HeadFields) (z s : List ℕ) : Type 0 where
  pub payload_length : payload_length_come s ≡ payload_length_octets f.short f.payload_length
  pub id_length : id_length_come s ≡ id_length_octets f.id_length
  pub body : body_given (slice_index s 0) (drop 2 s) ≡ z
  pub id_count : id_given (slice_index s 0) (drop 2 s) ≡ unwrap_or f.id_length 0
  pub size : size_come s ≡ length (octets f) + (f.kind_length + (unwrap_or f.id_length 0 + f.payload_length))

pub head_come : (f : HeadFields) (z : List ℕ) → CanBeSpelled f → HeadCome f z (octets f ++ z)
unfolding size_come
head_come f z c =
    let s = octets f ++ z in
    let h = header f in
    let lengths = payload_length_octets f.short f.payload_length in
    let there = id_length_octets f.id_length in
    let q = header_parts f c.tnf in
    let n : length lengths ≡ width h = form_width f.short f.payload_length
    ∙ ap (λ b. if b then 1 else 4) (sym q.short) in
    let m : length there ≡ id_length_width h = there_width f.id_length
    ∙ ap (λ b. if b then 1 else 0) (sym q.id_there) in
    let both = length-append lengths there in
    let e = append_assoc lengths there z in
    let i : id_given h (drop 2 s) ≡ unwrap_or f.id_length 0 =
    ap (λ t. if t then slice_index (drop 2 s) (width h) else 0) q.id_there
    ∙ ap (λ b. if is_some f.id_length then slice_index (drop 2 s) (if b then 1 else 4) else 0) q.short
    ∙ id_read f.short f.payload_length f.id_length z in
    let p : payload_length_at (is_set 4 h) s ≡ f.payload_length =
    ap (λ b. payload_length_at b s) q.short
    ∙ length_read f.short f.payload_length f.id_length h f.kind_length z c.payload in
    let o = octets_size f c.tnf in
    record {
      payload_length = ap (take (width h)) e ∙ take_at lengths (there ++ z) (width h) (omega (arith, n));
      id_length =
          ap (λ x. take (id_length_width h) (drop (width h) x)) e
          ∙ ap (take (id_length_width h)) (drop_at lengths (there ++ z) (width h) (omega (arith, n)))
          ∙ take_at there z (id_length_width h) (omega (arith, m));
      body = drop_at (lengths ++ there) z (lengths_width h) (omega (arith, n, m, both));
      id_count = i;
      size = omega (arith, i, p, o);
    }

-- the fields of a piece with this head, of which these octets have come
pub record Come (f : HeadFields) (kind id content s : List ℕ) : Type 0 where
  pub payload_length : payload_length_come s ≡ payload_length_octets f.short f.payload_length
  pub id_length : id_length_come s ≡ id_length_octets f.id_length
  pub kind_is : kind_come s ≡ kind
  pub id_is : id_come s ≡ id
  pub content_is : content_come s ≡ content

pub come : (f : HeadFields) (kind id content : List ℕ) → CanBeSpelled f → length kind ≡ f.kind_length
    → length id ≡ unwrap_or f.id_length 0
    → Come f kind id content (octets f ++ (kind ++ (id ++ content)))
come f kind id content c lk li =
    let s = octets f ++ (kind ++ (id ++ content)) in
    let h = slice_index s 0 in
    let tail = drop 2 s in
    let b = head_come f (kind ++ (id ++ content)) c in
    let i = b.id_count in
    let past_kind : drop f.kind_length (body_given h tail) ≡ id ++ content =
    ap (drop f.kind_length) b.body ∙ drop_at kind (id ++ content) f.kind_length (omega (arith, lk)) in
    record {
      payload_length = b.payload_length;
      id_length = b.id_length;
      kind_is = ap (take f.kind_length) b.body ∙ take_at kind (id ++ content) f.kind_length (omega (arith, lk));
      id_is = ap (take (id_given h tail)) past_kind ∙ take_at id content (id_given h tail) (omega (arith, i, li));
      content_is =
          sym (drop-drop (id_given h tail) f.kind_length (body_given h tail))
          ∙ ap (drop (id_given h tail)) past_kind
          ∙ drop_at id content (id_given h tail) (omega (arith, i, li));
    }

-- ---- whole pieces
pub piece_spelled : (p : Piece) (short : Bool) (bytes : List ℕ) → SpellsPiece p short bytes
    → CanBeSpelled (fields p short)
piece_spelled p short bytes s = record {
  tnf = s.piece.tnf;
  kind = s.piece.kind_length;
  payload = s.piece.payload_length;
  form = s.form;
  id = rw (id_count p.id) s.piece.id_length;
}

-- the parts of a whole piece
pub whole_come : (p : Piece) (short : Bool) (bytes : List ℕ) → SpellsPiece p short bytes
    → Come (fields p short) p.kind (unwrap_or p.id []) p.payload bytes
whole_come p short bytes s =
    subst (Come (fields p short) p.kind (unwrap_or p.id []) p.payload) (sym s.spelled)
    (come (fields p short) p.kind (unwrap_or p.id []) p.payload (piece_spelled p short bytes s) refl
    (sym (id_count p.id)))

-- its octets determine their number, whatever follows
pub size_whole : (p : Piece) (short : Bool) (front rest : List ℕ) → SpellsPiece p short front
    → size_come (front ++ rest) ≡ length front
size_whole p short front rest s =
    let f = fields p short in
    let b = (head_come f (body p ++ rest) (piece_spelled p short front s)).size in
    let e = ap (λ x. x ++ rest) s.spelled ∙ append_assoc (octets f) (body p) rest in
    let n = id_count p.id in
    let whole = ap length s.spelled ∙ length-append (octets f) (body p) in
    let m = length-append p.kind (unwrap_or p.id [] ++ p.payload) in
    let o = length-append (unwrap_or p.id []) p.payload in
    ap size_come e ∙ omega (arith, b, n, whole, m, o)

-- the octets that a piece spells, where the same rest follows others
pub same_front : (front octets rest s : List ℕ) → s ≡ front ++ rest → s ≡ octets ++ rest → front ≡ octets
same_front front octets rest s e g =
    let n = ap length e ∙ length-append front rest in
    let m = ap length g ∙ length-append octets rest in
    (cut_alike front octets rest rest (omega (arith, n, m)) (sym e ∙ g)).0

-- ---- all of them
fronts_skip : (k : ℕ) (s : List ℕ) → fronts_from k s ≡ fronts (drop k s)
fronts_skip zero [] = refl
fronts_skip (suc k) [] = refl
fronts_skip zero (b ∷ s) = refl
fronts_skip (suc k) (b ∷ s) = fronts_skip k s

drop_one : (n b : ℕ) (s : List ℕ) → 0 < n → drop n (b ∷ s) ≡ drop (n - 1) s
drop_one zero b s h = absurd (omega (arith, h))
drop_one (suc n) b s h = let e : n ≡ suc n - 1 = omega arith in ap (λ k. drop k s) e

take_all : (n : ℕ) (s : List ℕ) → length s ≤ n → take n s ≡ s
take_all zero [] h = refl
take_all (suc n) [] h = refl
take_all zero (b ∷ s) h = absurd (omega (arith, h))
take_all (suc n) (b ∷ s) h = let e : length s ≤ n = omega (arith, h) in ap (λ x. b ∷ x) (take_all n s e)

-- the first, and those after it
fronts_step : (s : List ℕ) → 0 < length s → 0 < size_come s
    → fronts s ≡ take (size_come s) s ∷ fronts (drop (size_come s) s)
fronts_step [] h n = absurd (omega (arith, h))
fronts_step (b ∷ s) h n =
    ap (λ x. take (size_come (b ∷ s)) (b ∷ s) ∷ x) (fronts_skip (size_come (b ∷ s) - 1) s
    ∙ ap fronts (sym (drop_one (size_come (b ∷ s)) b s n)))

-- one whose size is that of these octets
pub fronts_whole : (octets rest s : List ℕ) → 0 < length octets → s ≡ octets ++ rest → size_come s ≡ length octets
    → fronts s ≡ octets ∷ fronts rest
fronts_whole octets rest s some e n =
    let l = ap length e ∙ length-append octets rest in
    fronts_step s (omega (arith, some, l)) (omega (arith, some, n))
    ∙ ap₂ (λ x y. x ∷ fronts y) (ap (take (size_come s)) e ∙ take_at octets rest (size_come s) (sym n))
    (ap (drop (size_come s)) e ∙ drop_at octets rest (size_come s) (sym n))

-- one that is longer than what has come
pub fronts_begun : (s : List ℕ) → 0 < length s → length s ≤ size_come s → fronts s ≡ s ∷ []
fronts_begun s h n =
    fronts_step s h (omega (arith, h, n))
    ∙ ap₂ (λ x y. x ∷ fronts y) (take_all (size_come s) s n) (drop_of_length-le s n)

-- a whole piece is the first of them
pub spelled_first : (p : Piece) (short : Bool) (front rest : List ℕ) → SpellsPiece p short front
    → fronts (front ++ rest) ≡ front ∷ fronts rest
spelled_first p short front rest s =
    let n = ap length s.spelled in
    fronts_whole front rest (front ++ rest) (omega (arith, n)) refl (size_whole p short front rest s)
