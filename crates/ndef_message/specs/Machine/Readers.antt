-- The rest of a reader, of which some bytes are shown.
use Rattle.std.specs.Prelude.{◌≤◌, ℕ, Bool, true, List, length, drop, Option, Some, None, IfSome, if◌then◌else◌, nat_eq, nat_le, option_and_then, option_map, ◌||◌, not}
use Rattle.std.specs.List.{starts_with}
use Rattle.std.specs.Option.{option_map_or}

-- a reader may give up n bytes
abbrev pub Within : Option ℕ → ℕ → Type 0
Within limit n = IfSome limit (λ most. n ≤ most)

-- the known bytes, where they begin with those that are shown
unfoldable pub known_from : Option (List ℕ) → List ℕ → Option (List ℕ)
known_from known shown = option_and_then (λ xs. if starts_with nat_eq xs shown then Some xs else None) known

-- what a reader has left once what is pending is consumed, where it begins with the bytes that are shown; nothing is
-- known where it may not give these up
unfoldable pub left_of : Option (List ℕ) → Option ℕ → Bool → List ℕ → ℕ → Option (List ℕ)
left_of remaining limit fresh shown pending =
    if option_map_or (λ n. nat_le (length shown) n || not fresh) limit true
    then known_from (option_map (drop pending) remaining) shown else None
