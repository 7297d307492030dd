-- The properties of a piece by a front of it.
use Rattle.std.proofs.Common.{◌≡◌, ℕ, ◌+◌, ◌<◌, ◌≤◌, ◌^◌, Bool, true, false, Option, Some, None, List, [], ◌∷◌, ◌++◌, length, take, drop, refl, sym, ◌∙◌, ap, ap₂, arith, length-append, append_assoc}
use Rattle.std.specs.Prelude.{if◌then◌else◌, is_some, slice_index, unwrap_or}
use Rattle.std.specs.Int.{w32, to_be_bytes}
use Rattle.std.proofs.lemmas.Nat.{from_be_bytes-to_be_bytes_4}
use Rattle.ndef_format.specs.Records.{Piece, SpellsPiece, body, fields, id_length_octets, octets, payload_length_octets}
use Rattle.ndef_format.specs.HeadReasons.{is_set, tnf_number, width}
use Rattle.ndef_piece.specs.HeaderLaws.{header, header_parts, id_count}
use Rattle.ndef_diagnostics.specs.Begun.{head_length, id_length, payload_length, spelled}

-- ---- PAYLOAD_LENGTH

abbrev width_by : Bool → ℕ
width_by short = if short then 1 else 4

-- the number of its octets that came spell is no more than the length, and the length where all came
record IsNoMore (most count : ℕ) (is_whole : Type 0) : Type 0 where
  bound : count ≤ most
  whole : is_whole → count ≡ most

long_spelled : (n : ℕ) → n < 2 ^ 32 → spelled false (to_be_bytes w32 n) ≡ n
long_spelled n l = omega (arith, from_be_bytes-to_be_bytes_4 n l)

payload_front : (short : Bool) (n : ℕ) (t more z : List ℕ) → n < 2 ^ 32 → t ++ more ≡ payload_length_octets short n ++ z
    → IsNoMore n (spelled short (take (width_by short) t)) (width_by short ≤ length t)
payload_front true n (a ∷ t) more z l e =
    let same : a ≡ n = ap (λ x. slice_index x 0) e in record { bound = omega (arith, same); whole = λ h. same }
payload_front false n (a ∷ b ∷ c ∷ d ∷ t) more z l e =
    let same : spelled false (a ∷ b ∷ c ∷ d ∷ []) ≡ n = ap (λ x. spelled false (take 4 x)) e ∙ long_spelled n l in
    record { bound = omega (arith, same); whole = λ h. same }
payload_front short n t more z l e = record { bound = omega arith; whole = λ h. absurd (omega (arith, h)) }

-- ---- ID_LENGTH

abbrev id_by : (there short : Bool) → List ℕ → ℕ
id_by there short t = if there then slice_index t (width_by short) else 0

abbrev id_width : Bool → ℕ
id_width there = if there then 1 else 0

id_front : (short : Bool) (n : ℕ) (o : Option ℕ) (t more z : List ℕ) → t ++ more ≡ (payload_length_octets short n ++ id_length_octets o) ++ z
    → IsNoMore (unwrap_or o 0) (id_by (is_some o) short t) (width_by short + id_width (is_some o) ≤ length t)
id_front short n None t more z e = record { bound = omega arith; whole = λ h. refl }
id_front true n (Some d) (a ∷ b ∷ t) more z e =
    let same : b ≡ d = ap (λ x. slice_index x 1) e in record { bound = omega (arith, same); whole = λ h. same }
id_front false n (Some d) (a ∷ b ∷ c ∷ f ∷ g ∷ t) more z e =
    let same : g ≡ d = ap (λ x. slice_index x 4) e in record { bound = omega (arith, same); whole = λ h. same }
id_front short n o t more z e = record { bound = omega arith; whole = λ h. absurd (omega (arith, h)) }

-- ---- all lengths

head_size : (short there : Bool) (n : ℕ) (o : Option ℕ) → is_some o ≡ there
    → length (payload_length_octets short n ++ id_length_octets o) ≡ width_by short + id_width there
head_size true there n None e = ap (λ b. 1 + id_width b) e
head_size true there n (Some d) e = ap (λ b. 1 + id_width b) e
head_size false there n None e = ap (λ b. 4 + id_width b) e
head_size false there n (Some d) e = ap (λ b. 4 + id_width b) e

-- the octets before TYPE
abbrev pub head_of : Piece → Bool → ℕ
head_of p short = 2 + (width_by short + id_width (is_some (fields p short).id_length))

-- those of ID
abbrev pub id_of : Piece → Bool → ℕ
id_of p short = unwrap_or (fields p short).id_length 0

pub front_size : (p : Piece) (short : Bool) (front : List ℕ) → front ≡ octets (fields p short) ++ body p
    → length front ≡ head_of p short + length p.kind + id_of p short + length p.payload
front_size p short front e =
    let f = fields p short in
    let a = length-append (octets f) (body p) in
    let b = head_size short (is_some f.id_length) (length p.payload) f.id_length refl in
    let k = length-append p.kind (unwrap_or p.id [] ++ p.payload) in
    let d = length-append (unwrap_or p.id []) p.payload in
    omega (arith, ap length e, a, b, k, d, id_count p.id)

-- what the octets with which a piece begins say of it
pub record FrontTells (p : Piece) (short : Bool) (s : List ℕ) : Type 0 where
  pub last : is_set 6 (slice_index s 0) ≡ p.last
  pub tnf : tnf_number (slice_index s 0) ≡ p.tnf
  pub head : head_length s ≡ head_of p short
  pub kind : slice_index s 1 ≤ length p.kind
  pub id : id_length s ≤ id_of p short
  pub payload : payload_length s ≤ length p.payload
  pub no_id : is_set 3 (slice_index s 0) ≡ false → id_length s ≡ id_of p short
  pub whole_kind : 2 ≤ length s → slice_index s 1 ≡ length p.kind
  pub whole_id : head_length s ≤ length s → id_length s ≡ id_of p short
  pub whole_payload : 2 + width (slice_index s 0) ≤ length s → payload_length s ≡ length p.payload

some_width : (short : Bool) → 1 ≤ width_by short
some_width short = grind arith

none_id : (there short : Bool) → id_by there short [] ≡ 0
none_id there short = grind arith

none_spelled : (short : Bool) → spelled short (take (width_by short) []) ≡ 0
none_spelled short = grind arith

no_id_is : (o : Option ℕ) → is_some o ≡ false → 0 ≡ unwrap_or o 0
no_id_is None e = refl
no_id_is (Some d) e = cc

by_there : (there short : Bool) (t : List ℕ) → there ≡ false → id_by there short t ≡ 0
by_there there short t e = ap (λ b. id_by b short t) e

pub front_tells : (p : Piece) (short : Bool) (s more front rest : List ℕ) → 0 < length s → SpellsPiece p short front
    → s ++ more ≡ front ++ rest → FrontTells p short s
front_tells p short [] more front rest l i e = absurd (omega (arith, l))
front_tells p short (h ∷ []) more front rest l i e =
    let f = fields p short in
    let x : h ∷ more ≡ (octets f ++ body p) ++ rest = e ∙ ap (λ y. y ++ rest) i.spelled in
    let hd : h ≡ header f = ap (λ y. slice_index y 0) x in
    let parts = header_parts f i.piece.tnf in
    let there : is_set 3 h ≡ is_some f.id_length = ap (is_set 3) hd ∙ parts.id_there in
    let sh : is_set 4 h ≡ short = ap (is_set 4) hd ∙ parts.short in
    let head : head_length (h ∷ []) ≡ head_of p short = ap₂ (λ a b. 2 + (width_by b + id_width a)) there sh in
    let id : id_length (h ∷ []) ≡ 0 = none_id (is_set 3 h) (is_set 4 h) in
    let payload : payload_length (h ∷ []) ≡ 0 = none_spelled (is_set 4 h) in
    let long : 1 < head_length (h ∷ []) = omega (arith, head) in
    record {
      last = ap (is_set 6) hd ∙ parts.ends;
      tnf = ap tnf_number hd ∙ parts.tnf;
      head = head;
      kind = omega arith;
      id = omega (arith, id);
      payload = omega (arith, payload);
      no_id = λ n. id ∙ no_id_is f.id_length (sym there ∙ n);
      whole_kind = λ w. absurd (omega (arith, w));
      whole_id = λ w. absurd (omega (arith, w, long));
      whole_payload = λ w. absurd (omega (arith, w, some_width (is_set 4 h)));
    }
front_tells p short (h ∷ k ∷ t) more front rest l i e =
    let f = fields p short in
    let n = length p.payload in
    let pl = payload_length_octets short n in
    let il = id_length_octets f.id_length in
    let x : h ∷ k ∷ (t ++ more) ≡ (octets f ++ body p) ++ rest = e ∙ ap (λ y. y ++ rest) i.spelled in
    let hd : h ≡ header f = ap (λ y. slice_index y 0) x in
    let kk : k ≡ length p.kind = ap (λ y. slice_index y 1) x in
    let y : t ++ more ≡ ((pl ++ il) ++ body p) ++ rest = ap (drop 2) x in
    let z : t ++ more ≡ (pl ++ il) ++ (body p ++ rest) = y ∙ append_assoc (pl ++ il) (body p) rest in
    let parts = header_parts f i.piece.tnf in
    let there : is_set 3 h ≡ is_some f.id_length = ap (is_set 3) hd ∙ parts.id_there in
    let sh : is_set 4 h ≡ short = ap (is_set 4) hd ∙ parts.short in
    let head : head_length (h ∷ k ∷ t) ≡ head_of p short = ap₂ (λ a b. 2 + (width_by b + id_width a)) there sh in
    let a = payload_front short n t more (il ++ (body p ++ rest)) i.piece.payload_length (z ∙ append_assoc pl il (body p ++ rest)) in
    let b = id_front short n f.id_length t more (body p ++ rest) z in
    let id : id_length (h ∷ k ∷ t) ≡ id_by (is_some f.id_length) short t = ap₂ (λ a b. id_by a b t) there sh in
    let payload : payload_length (h ∷ k ∷ t) ≡ spelled short (take (width_by short) t) =
    ap (λ b. spelled b (take (width_by b) t)) sh in
    record {
      last = ap (is_set 6) hd ∙ parts.ends;
      tnf = ap tnf_number hd ∙ parts.tnf;
      head = head;
      kind = omega (arith, kk);
      id = omega (arith, id, b.bound);
      payload = omega (arith, payload, a.bound);
      no_id = λ n. by_there (is_set 3 h) (is_set 4 h) t n ∙ no_id_is f.id_length (sym there ∙ n);
      whole_kind = λ w. kk;
      whole_id = λ w. id ∙ b.whole (omega (arith, w, head));
      whole_payload = λ w. payload ∙ a.whole (omega (arith, w, ap width_by sh));
    }
