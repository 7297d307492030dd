-- Pieces with one head, runs of the same pieces, and how long a piece is.
use Rattle.std.proofs.Common.{◌≡◌, ℕ, ◌+◌, Bool, refl, sym, ◌∙◌, ap, arith, List, [], ◌∷◌, ◌++◌, length, length-append, append_assoc, Option, Some, None}
use Rattle.std.specs.Prelude.{unwrap_or}
use Rattle.std.specs.Option.{option_map}
use Rattle.std.proofs.lemmas.Bool.{false≢true}
use Rattle.ndef_value.specs.ListLaws.{cut_alike}
use Rattle.ndef_format.specs.Records.{HeadFields, Piece, Run, Follow, fields, body, octets, payload_length_octets, id_length_octets}

-- ids of one length with the same octets are the same
same_id : (i j : Option (List ℕ)) → option_map length i ≡ option_map length j → unwrap_or i [] ≡ unwrap_or j [] → i ≡ j
same_id None None s e = refl
same_id None (Some b) s e = cc
same_id (Some a) None s e = cc
same_id (Some a) (Some b) s e = ap Some e

id_long : (i j : Option (List ℕ)) → option_map length i ≡ option_map length j
    → length (unwrap_or i []) ≡ length (unwrap_or j [])
id_long None None e = refl
id_long None (Some b) e = cc
id_long (Some a) None e = cc
id_long (Some a) (Some b) e = cc

-- ---- from their parts

abbrev make : Bool → Bool → Bool → ℕ → List ℕ → Option (List ℕ) → List ℕ → Piece
make first last chunked tnf kind id payload =
    record { first = first; last = last; chunked = chunked; tnf = tnf; kind = kind; id = id; payload = payload }

same_parts : (a a' b b' c c' : Bool) (t t' : ℕ) (k k' : List ℕ) (i i' : Option (List ℕ)) (n n' : List ℕ) → a ≡ a'
    → b ≡ b' → c ≡ c' → t ≡ t' → k ≡ k' → i ≡ i' → n ≡ n'
    → make a b c t k i n ≡ make a' b' c' t' k' i' n'
same_parts a a' b b' c c' t t' k k' i i' n n' e1 e2 e3 e4 e5 e6 e7 = rw (e1, e2, e3, e4, e5, e6, e7) refl

abbrev tell : Bool → Bool → Bool → Bool → ℕ → ℕ → ℕ → Option ℕ → HeadFields
tell first last chunked short tnf kind payload id =
    record {
      first = first;
      last = last;
      chunked = chunked;
      short = short;
      tnf = tnf;
      kind_length = kind;
      payload_length = payload;
      id_length = id;
    }

pub same_fields : (a a' b b' c c' s : Bool) (t t' k k' n n' : ℕ) (i i' : Option ℕ) → a ≡ a' → b ≡ b' → c ≡ c' → t ≡ t'
    → k ≡ k' → n ≡ n' → i ≡ i' → tell a b c s t k n i ≡ tell a' b' c' s t' k' n' i'
same_fields a a' b b' c c' s t t' k k' n n' i i' e1 e2 e3 e4 e5 e6 e7 = rw (e1, e2, e3, e4, e5, e6, e7) refl

-- ---- their bodies

-- bodies after one head, at the front of the same octets, are those of one piece
pub same_body : (p q : Piece) (s : Bool) (x y : List ℕ) → fields p s ≡ fields q s → body p ++ x ≡ body q ++ y → (p ≡ q)
    × (x ≡ y)
same_body p q s x y e b =
    let regroup = λ (p : Piece) (x : List ℕ). (let r : body p ++ x ≡ p.kind
    ++ (unwrap_or p.id [] ++ (p.payload ++ x)) = append_assoc p.kind _ x
    ∙ ap (λ z. p.kind ++ z) (append_assoc (unwrap_or p.id []) p.payload x) in r) in
    let w : p.kind ++ (unwrap_or p.id [] ++ (p.payload ++ x)) ≡ q.kind
    ++ (unwrap_or q.id [] ++ (q.payload ++ y)) = sym (regroup p x) ∙ b ∙ regroup q y in
    let i : option_map length p.id ≡ option_map length q.id = ap (λ f. f.id_length) e in
    let k = cut_alike p.kind q.kind _ _ (ap (λ f. f.kind_length) e) w in
    let d = cut_alike (unwrap_or p.id []) (unwrap_or q.id []) _ _ (id_long p.id q.id i) k.1 in
    let n = cut_alike p.payload q.payload _ _ (ap (λ f. f.payload_length) e) d.1 in (
      same_parts _ _ _ _ _ _ _ _ _ _ _ _ _ _ (ap (λ f. f.first) e) (ap (λ f. f.last) e) (ap (λ f. f.chunked) e)
          (ap (λ f. f.tnf) e) k.0 (same_id p.id q.id i d.0) n.0,
      n.1,
    )

-- ---- their runs

-- the pieces that follow another in its run, and what comes after them, are the same where the pieces in all are
pub follow_once : (c d : Bool) (l m x y : List Piece) → c ≡ d → Follow c l → Follow d m → l ++ x ≡ m ++ y → (l ≡ m)
    × (x ≡ y)
follow_once c d [] [] x y q a b e = (refl, e)
follow_once c d [] (r ∷ m) x y q a b e = absurd (false≢true (sym a ∙ q ∙ b.0))
follow_once c d (p ∷ l) [] x y q a b e = absurd (false≢true (sym b ∙ sym q ∙ a.0))
follow_once c d (p ∷ l) (r ∷ m) x y q a b e =
    let f : p ≡ r = cc in
    let g : l ++ x ≡ m ++ y = cc in
    let w = follow_once p.chunked r.chunked l m x y (ap (λ z. z.chunked) f) a.2 b.2 g in
    ((let h = w.0 in cc), w.1)

pub same_run : (r s : Run) → r.initial ≡ s.initial → r.later ≡ s.later → r ≡ s
same_run r s e f =
    let make : Piece → List Piece → Run = λ i l. record { initial = i; later = l } in
    ap (λ i. make i r.later) e ∙ ap (make s.initial) f

-- ---- their lengths

-- the number of octets of a piece, by its parts
pub piece_octets : (p : Piece) (short : Bool) → length (octets (fields p short) ++ body p)
    ≡ 2 + length (payload_length_octets short (length p.payload)) + length (id_length_octets (option_map length p.id))
    + length p.kind + length (unwrap_or p.id []) + length p.payload
piece_octets p short =
    let head = length-append (payload_length_octets short (length p.payload))
    (id_length_octets (option_map length p.id)) in
    let rest = length-append (unwrap_or p.id []) p.payload in
    let all = length-append p.kind (unwrap_or p.id [] ++ p.payload) in
    let whole = length-append (octets (fields p short)) (body p) in
    omega arith
