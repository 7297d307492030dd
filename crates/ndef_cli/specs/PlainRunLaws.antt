-- Runs of bytes that a text between quotation marks has as they are.
use Rattle.std.proofs.Common.{◌≡◌, ◌∷◌, ◌++◌, ◌+◌, ◌-◌, ◌<◌, ◌≤◌, ℕ, List, [], length, take, drop, refl, rules, true, false, Bool, cond, suc, slice_index_or}
use native.Mathlib.Omega.{arith}
use Rattle.std.proofs.lemmas.List.{append_assoc, take_all}
use Rattle.std.specs.List.{flat_map, prefix_len}

-- the number of plain bytes at the front
abbrev plain_count : (ℕ → Bool) → List ℕ → ℕ
plain_count plain bytes = prefix_len plain bytes

-- this many bytes at the front are written as they are, before the others
abbrev StartsPlain : (spell : ℕ → List ℕ) → ℕ → List ℕ → Type 0
StartsPlain spell n bytes = flat_map spell bytes ≡ take n bytes ++ flat_map spell (drop n bytes)

one_more : (spell : ℕ → List ℕ) (b : ℕ) (bytes : List ℕ) (n m : ℕ) → m ≡ suc n → spell b ≡ b ∷ []
    → StartsPlain spell n bytes → StartsPlain spell m (b ∷ bytes)
one_more spell b bytes n m same h rest = search (same, h, rest, rules)

-- Each plain byte is written as it is.
abbrev pub PlainStays : (plain : ℕ → Bool) (spell : ℕ → List ℕ) → Type 0
PlainStays plain spell = (b : ℕ) → plain b ≡ true → spell b ≡ b ∷ []

plain_before : (plain : ℕ → Bool) (spell : ℕ → List ℕ) → PlainStays plain spell
    → (b : ℕ) (bytes : List ℕ) (is_plain : Bool) → plain b ≡ is_plain
    → StartsPlain spell (plain_count plain bytes) bytes
    → StartsPlain spell (cond is_plain (1 + plain_count plain bytes) 0) (b ∷ bytes)
plain_before plain spell stays b bytes true h rest =
    one_more spell b bytes (plain_count plain bytes) (1 + plain_count plain bytes) (omega arith) (stays b h) rest
plain_before plain spell stays b bytes false h rest = refl

starts_plain : (plain : ℕ → Bool) (spell : ℕ → List ℕ) → PlainStays plain spell
    → (bytes : List ℕ) → StartsPlain spell (plain_count plain bytes) bytes
starts_plain plain spell stays [] = refl
starts_plain plain spell stays (b ∷ bytes) =
    plain_before plain spell stays b bytes (plain b) refl (starts_plain plain spell stays bytes)

-- where only plain bytes are left, they end the text
pub plain_end : (plain : ℕ → Bool) (spell : ℕ → List ℕ) → PlainStays plain spell
    → (line rest text : List ℕ) → line ++ flat_map spell rest ≡ text
    → length (drop (plain_count plain rest) rest) < 1 → line ++ take (plain_count plain rest) rest ≡ text
plain_end plain spell stays line rest text whole none = go (drop (plain_count plain rest) rest) refl none
  where
    go : (other : List ℕ) → drop (plain_count plain rest) rest ≡ other → length other < 1
        → line ++ take (plain_count plain rest) rest ≡ text
    go [] h few = search (starts_plain plain spell stays rest, whole, h, rules)
    go (b ∷ other) h few = search (few, rules)

-- what is appended part by part
joined : (line front byte rest all text : List ℕ) → line ++ all ≡ text → all ≡ front ++ (byte ++ rest)
    → ((line ++ front) ++ byte) ++ rest ≡ text
joined line front byte rest all text whole parts =
    search (whole, parts, append_assoc (line ++ front) byte rest, append_assoc line front (byte ++ rest), rules)

-- the byte after the plain ones, and what is then left
pub plain_step : (plain : ℕ → Bool) (spell : ℕ → List ℕ) → PlainStays plain spell
    → (line rest text : List ℕ) → line ++ flat_map spell rest ≡ text
    → (other : List ℕ) → other ≡ drop (plain_count plain rest) rest → 1 ≤ length other
    → ((line ++ take (plain_count plain rest) rest) ++ spell (slice_index_or other 0 0))
    ++ flat_map spell (take (length other - 1) (drop 1 other)) ≡ text
plain_step plain spell stays line rest text whole [] h some = search (some, rules)
plain_step plain spell stays line rest text whole (b ∷ other) h some =
    joined line (take (plain_count plain rest) rest) (spell b) (flat_map spell left) (flat_map spell rest) text whole
    (parts left (take_all (length (b ∷ other) - 1) other (omega arith)))
  where
    left : List ℕ
    left = take (length (b ∷ other) - 1) other

    parts : (after : List ℕ) → after ≡ other
        → flat_map spell rest ≡ take (plain_count plain rest) rest ++ (spell b ++ flat_map spell after)
    parts after same = search (starts_plain plain spell stays rest, h, same, rules)
