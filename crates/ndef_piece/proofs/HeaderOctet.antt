-- A header octet from its parts.
use Rattle.std.proofs.Common.{◌≡◌, ℕ, zero, suc, ◌+◌, ◌*◌, ◌/◌, ◌%◌, ◌^◌, ◌<◌, bit_or, Bool, true, false, refl, arith}
use mir.Val.{bool_byte}
use Rattle.std.proofs.lemmas.Nat.{or_shifted}
use Rattle.std.specs.Prelude.{◌==◌}
use Rattle.ndef_format.specs.Records.{bit, header_octet}
use Rattle.ndef_format.specs.HeadReasons.{is_set, tnf_number}

-- a digit as a flag
test_bit : (x : ℕ) → x < 2 → bit (x == 1) ≡ x
test_bit zero h = refl
test_bit (suc zero) h = refl
test_bit (suc (suc x)) h = absurd (omega arith)

-- an octet by its digits
split_octet : (n : ℕ) → n < 256 → n ≡ 128 * (n / 128 % 2) + 64 * (n / 64 % 2) + 32 * (n / 32 % 2) + 16 * (n / 16 % 2) + 8 * (n / 8 % 2) + n % 8
split_octet n h = omega arith

-- an octet is the header octet of its parts
pub octet_of_parts : (n : ℕ) → n < 256 → n ≡ header_octet (is_set 7 n) (is_set 6 n) (is_set 5 n) (is_set 4 n) (is_set 3 n) (tnf_number n)
octet_of_parts n h =
    let e7 : bit (is_set 7 n) ≡ n / 128 % 2 = test_bit (n / 128 % 2) (omega arith) in
    let e6 : bit (is_set 6 n) ≡ n / 64 % 2 = test_bit (n / 64 % 2) (omega arith) in
    let e5 : bit (is_set 5 n) ≡ n / 32 % 2 = test_bit (n / 32 % 2) (omega arith) in
    let e4 : bit (is_set 4 n) ≡ n / 16 % 2 = test_bit (n / 16 % 2) (omega arith) in
    let e3 : bit (is_set 3 n) ≡ n / 8 % 2 = test_bit (n / 8 % 2) (omega arith) in
    let whole = split_octet n h in
    omega (arith, e7, e6, e5, e4, e3, whole)

-- ---- written

-- an `|` below the bits that are there is a sum
or_below : (n a k x : ℕ) → n ≡ a * 2 ^ k → x < 2 ^ k → bit_or n x ≡ n + x
or_below n a k x e h = rw e (or_shifted a k x h)

-- the flags and the type name format, put together by `|`
pub flags_or : (b e c s i t : ℕ) → b < 2 → e < 2 → c < 2 → s < 2 → i < 2 → t < 8
    → bit_or (bit_or (bit_or (bit_or (bit_or (b * 128 % 256) (e * 64 % 256)) (c * 32 % 256)) (s * 16 % 256)) (i * 8 % 256)) t
    ≡ 128 * b + 64 * e + 32 * c + 16 * s + 8 * i + t
flags_or b e c s i t hb he hc hs hi ht =
    let q1 = or_below (b * 128 % 256) b 7 (e * 64 % 256) (omega arith) (omega arith) in
    let q2 = or_below (b * 128 % 256 + e * 64 % 256) (2 * b + e) 6 (c * 32 % 256) (omega arith) (omega arith) in
    let q3 = or_below (b * 128 % 256 + e * 64 % 256 + c * 32 % 256) (4 * b + 2 * e + c) 5 (s * 16 % 256) (omega arith) (omega arith) in
    let q4 = or_below (b * 128 % 256 + e * 64 % 256 + c * 32 % 256 + s * 16 % 256) (8 * b + 4 * e + 2 * c + s) 4 (i * 8 % 256) (omega arith) (omega arith) in
    let q5 = or_below (b * 128 % 256 + e * 64 % 256 + c * 32 % 256 + s * 16 % 256 + i * 8 % 256) (16 * b + 8 * e + 4 * c + 2 * s + i) 3 t (omega arith) (omega arith) in
    rw (q1, q2, q3, q4, q5) (omega arith)

-- a flag as a byte
pub byte_bit : (b : Bool) → bool_byte b ≡ bit b
byte_bit true = refl
byte_bit false = refl
