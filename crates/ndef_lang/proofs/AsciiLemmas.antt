-- Octets that are all ASCII.
use Rattle.std.proofs.Common.{◌≡◌, ℕ, zero, suc, ◌+◌, ◌-◌, ◌*◌, ◌/◌, ◌%◌, ◌<◌, ◌≤◌, List, [], ◌∷◌, get_or, length, take, drop, refl, sym, ◌∙◌, ap, arith}
use Rattle.std.proofs.lemmas.Nat.Bits.{bit_at_and}
use Rattle.std.proofs.lemmas.Str.{IsUtf8-from_ascii}
use Rattle.std.specs.List.{AllByRecursion}
use Rattle.std.specs.Prelude.{IsUtf8, bit_and, min}
use Rattle.std.specs.Int.{bit_at}
use Rattle.ndef_format.specs.Texts.{IsCodeOctet}

-- ASCII is UTF-8
pub ascii_is_utf8 : (s : List ℕ) → AllByRecursion IsCodeOctet s → IsUtf8 s
ascii_is_utf8 s h = IsUtf8-from_ascii s (each s h)
  where
    each : (s : List ℕ) → AllByRecursion IsCodeOctet s → (k : ℕ) → get_or s k 0 < 128
    each [] h k = omega arith
    each (x ∷ s) h zero = omega (arith, h.0)
    each (x ∷ s) h (suc k) = each s h.1 k

-- ---- parts of octets

-- a front and what follows it
pub ascii_parts : (k : ℕ) (s : List ℕ) → AllByRecursion IsCodeOctet s → AllByRecursion IsCodeOctet (take k s) × AllByRecursion IsCodeOctet (drop k s)
ascii_parts zero s h = (tt, h)
ascii_parts (suc k) [] h = (tt, tt)
ascii_parts (suc k) (x ∷ s) h = let p = ascii_parts k s h.1 in ((h.0, p.0), p.1)

-- both together
pub ascii_joined : (k : ℕ) (s : List ℕ) → AllByRecursion IsCodeOctet (take k s) → AllByRecursion IsCodeOctet (drop k s) → AllByRecursion IsCodeOctet s
ascii_joined zero s h t = t
ascii_joined (suc k) [] h t = tt
ascii_joined (suc k) (x ∷ s) h t = (h.0, ascii_joined k s h.1 t)

-- what follows a longer front
ascii_further : (k m : ℕ) (s : List ℕ) → k ≤ m → AllByRecursion IsCodeOctet (drop k s) → AllByRecursion IsCodeOctet (drop m s)
ascii_further zero m s l h = (ascii_parts m s h).1
ascii_further (suc k) zero s l h = absurd (omega arith)
ascii_further (suc k) (suc m) [] l h = tt
ascii_further (suc k) (suc m) (x ∷ s) l h = ascii_further k m s (omega arith) h

-- up to sixteen octets, by the first and the last eight
pub ascii_ends : (s : List ℕ) → length s ≤ 16 → AllByRecursion IsCodeOctet (take 8 s) → AllByRecursion IsCodeOctet (drop (length s - 8) s) → AllByRecursion IsCodeOctet s
ascii_ends s l h t = ascii_joined 8 s h (ascii_further (length s - 8) 8 s (omega arith) t)

-- ---- four octets, by the highest bits of their word

-- a bit of the mask is clear in the word
bit_clear : (word i : ℕ) → bit_and word 0x8080_8080 ≡ 0 → bit_at 0x8080_8080 i ≡ 1 → bit_at 0 i ≡ 0 → bit_at word i ≡ 0
bit_clear word i clear there none =
    let e : min (bit_at word i) (bit_at 0x8080_8080 i) ≡ 0 = sym (bit_at_and word 0x8080_8080 i) ∙ ap (λ n. bit_at n i) clear ∙ none in
    omega (arith, e)

-- the word of four octets, the first being the lowest
pub ascii_word : (a b c d word : ℕ) → a < 256 → b < 256 → c < 256 → d < 256 → word ≡ a + b * 256 + c * 65536 + d * 16777216 → bit_and word 0x8080_8080 ≡ 0
    → AllByRecursion IsCodeOctet (a ∷ b ∷ c ∷ d ∷ [])
ascii_word a b c d word p q r s is clear =
    let e0 : word / 128 % 2 ≡ 0 = bit_clear word 7 clear refl refl in
    let e1 : word / 32768 % 2 ≡ 0 = bit_clear word 15 clear refl refl in
    let e2 : word / 8388608 % 2 ≡ 0 = bit_clear word 23 clear refl refl in
    let e3 : word / 2147483648 % 2 ≡ 0 = bit_clear word 31 clear refl refl in
    (omega arith, (omega arith, (omega arith, (omega arith, tt))))
