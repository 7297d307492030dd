-- The header octet and its parts.
use Rattle.std.proofs.Common.{◌≡◌, ℕ, ◌+◌, ◌*◌, ◌/◌, ◌%◌, ◌<◌, Bool, true, false, cond, length, length-append, Option, Some, None, refl, ◌∙◌, ap, arith, List, [], unwrap_or}
use Rattle.std.specs.Prelude.{◌==◌, is_some}
use Rattle.ndef_format.specs.Records.{HeadFields, bit, header_octet, id_length_octets, octets, payload_length_octets}
use Rattle.ndef_format.specs.HeadReasons.{is_set, tnf_number}
use Rattle.ndef_piece.specs.Header.{size}
use Rattle.std.specs.Option.{option_map}

-- a flag as a digit
pub bit_below : (b : Bool) → bit b < 2
bit_below true = omega arith
bit_below false = omega arith

-- and back
bit_test : (b : Bool) → (bit b == 1) ≡ b
bit_test true = refl
bit_test false = refl

-- the digits, from the highest
at_7 : (b e c s i t : ℕ) → b < 2 → e < 2 → c < 2 → s < 2 → i < 2 → t < 8
    → (128 * b + 64 * e + 32 * c + 16 * s + 8 * i + t) / 128 % 2 ≡ b
at_7 b e c s i t h1 h2 h3 h4 h5 h6 = omega arith

at_6 : (b e c s i t : ℕ) → b < 2 → e < 2 → c < 2 → s < 2 → i < 2 → t < 8
    → (128 * b + 64 * e + 32 * c + 16 * s + 8 * i + t) / 64 % 2 ≡ e
at_6 b e c s i t h1 h2 h3 h4 h5 h6 = omega arith

at_5 : (b e c s i t : ℕ) → b < 2 → e < 2 → c < 2 → s < 2 → i < 2 → t < 8
    → (128 * b + 64 * e + 32 * c + 16 * s + 8 * i + t) / 32 % 2 ≡ c
at_5 b e c s i t h1 h2 h3 h4 h5 h6 = omega arith

at_4 : (b e c s i t : ℕ) → b < 2 → e < 2 → c < 2 → s < 2 → i < 2 → t < 8
    → (128 * b + 64 * e + 32 * c + 16 * s + 8 * i + t) / 16 % 2 ≡ s
at_4 b e c s i t h1 h2 h3 h4 h5 h6 = omega arith

at_3 : (b e c s i t : ℕ) → b < 2 → e < 2 → c < 2 → s < 2 → i < 2 → t < 8
    → (128 * b + 64 * e + 32 * c + 16 * s + 8 * i + t) / 8 % 2 ≡ i
at_3 b e c s i t h1 h2 h3 h4 h5 h6 = omega arith

at_tnf : (b e c s i t : ℕ) → t < 8 → (128 * b + 64 * e + 32 * c + 16 * s + 8 * i + t) % 8 ≡ t
at_tnf b e c s i t h = omega arith

-- each part of a header octet
pub record HeaderParts (n : ℕ) (b e c s i : Bool) (t : ℕ) : Type 0 where
  pub begins : is_set 7 n ≡ b
  pub ends : is_set 6 n ≡ e
  pub chunked : is_set 5 n ≡ c
  pub short : is_set 4 n ≡ s
  pub id_there : is_set 3 n ≡ i
  pub tnf : tnf_number n ≡ t

-- the parts of a header octet are those that it was made of
pub octet_parts : (b e c s i : Bool) (t : ℕ) → t < 8 → HeaderParts (header_octet b e c s i t) b e c s i t
octet_parts b e c s i t u = record {
  begins = ap (λ x. x == 1) (at_7 (bit b) (bit e) (bit c) (bit s) (bit i) t (bit_below b) (bit_below e) (bit_below c)
      (bit_below s) (bit_below i) u) ∙ bit_test b;
  ends = ap (λ x. x == 1) (at_6 (bit b) (bit e) (bit c) (bit s) (bit i) t (bit_below b) (bit_below e) (bit_below c)
      (bit_below s) (bit_below i) u) ∙ bit_test e;
  chunked = ap (λ x. x == 1) (at_5 (bit b) (bit e) (bit c) (bit s) (bit i) t (bit_below b) (bit_below e) (bit_below c)
      (bit_below s) (bit_below i) u) ∙ bit_test c;
  short = ap (λ x. x == 1) (at_4 (bit b) (bit e) (bit c) (bit s) (bit i) t (bit_below b) (bit_below e) (bit_below c)
      (bit_below s) (bit_below i) u) ∙ bit_test s;
  id_there = ap (λ x. x == 1) (at_3 (bit b) (bit e) (bit c) (bit s) (bit i) t (bit_below b) (bit_below e) (bit_below c)
      (bit_below s) (bit_below i) u) ∙ bit_test i;
  tnf = at_tnf (bit b) (bit e) (bit c) (bit s) (bit i) t u;
}

-- the header octet of a head
abbrev pub header : HeadFields → ℕ
header h = header_octet h.first h.last h.chunked h.short (is_some h.id_length) h.tnf

-- the parts of its header octet
pub header_parts : (h : HeadFields) → h.tnf < 8
    → HeaderParts (header h) h.first h.last h.chunked h.short (is_some h.id_length) h.tnf
header_parts h t = octet_parts h.first h.last h.chunked h.short (is_some h.id_length) h.tnf t

-- ---- sizes

-- the octets of PAYLOAD_LENGTH
length_size : (short : Bool) (n : ℕ) → length (payload_length_octets short n) ≡ cond short 1 4
length_size true n = refl
length_size false n = refl

-- and of ID_LENGTH
id_size : (o : Option ℕ) → length (id_length_octets o) ≡ cond (is_some o) 1 0
id_size None = refl
id_size (Some d) = refl

pub flags_size : (h : HeadFields) → length (octets h) ≡ 2 + cond h.short 1 4 + cond (is_some h.id_length) 1 0
flags_size h =
    omega (
      arith,
      length-append (payload_length_octets h.short h.payload_length) (id_length_octets h.id_length),
      length_size h.short h.payload_length,
      id_size h.id_length,
    )

-- a header octet gives the size of the head
pub octets_size : (h : HeadFields) → h.tnf < 8 → length (octets h) ≡ size (header h)
octets_size h t = let p = header_parts h t in rw (p.short, p.id_there) (flags_size h)

-- NDEF 1.0, ID_LENGTH: the length that a piece gives for its id, 0 where it has none
pub id_count : (id : Option (List ℕ)) → unwrap_or (option_map length id) 0 ≡ length (unwrap_or id [])
id_count None = refl
id_count (Some xs) = refl
