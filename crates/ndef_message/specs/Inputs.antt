-- All that a source gives.
use Rattle.std.specs.Prelude.{◌≡◌, ◌<◌, ◌≤◌, ℕ, Bool, true, false, List, ◌++◌, length, Result, Ok, Err, Vec, IfSome}
use Rattle.std.specs.declared.alloc.Global.{Global}
use Rattle.ndef_message.specs.Sources.{Counts, Gave, SourceState}
use Rattle.ndef_message.specs.declared.input.InputError.{InputError}
use Rattle.ndef_message.specs.declared.input.InputError.TheVariants.{ReadFault, TooLong, NoMemory}

-- the bytes of a vector, if there is one
abbrev pub bytes_of : {E : Type 0} → Result (Vec ℕ Global) E → Result (List ℕ) E
bytes_of (Ok bytes) = Ok bytes.items
bytes_of (Err error) = Err error

-- The whole input, where it has at most that many bytes; of a longer one that many are taken. Where
-- the source failed, the bytes that were taken are its first; where memory failed too, and they are
-- fewer, and another byte follows.
abbrev pub IsWholeInput : (most : ℕ) (before after : SourceState) → Bool
    → Result (List ℕ) InputError → Type 0
IsWholeInput most before after failed (Ok input) =
    (failed ≡ false) × (length input ≤ most) × Gave before after input
    × IfSome before.coming (λ all. all ≡ input)
IsWholeInput most before after failed (Err TooLong) =
    (failed ≡ false) × IfSome before.coming (λ all. most < length all) × (front : List ℕ)
    × (length front ≡ most)
    × Gave before after front
IsWholeInput most before after failed (Err ReadFault) =
    (failed ≡ true) × (front : List ℕ) × (length front ≤ most)
    × IfSome before.coming (λ all. (rest : List ℕ) × (all ≡ front ++ rest))
    × Counts before.taken after.taken (length front)
IsWholeInput most before after failed (Err NoMemory) =
    (failed ≡ false) × (front : List ℕ) × (length front < most)
    × IfSome before.coming (λ all. length front < length all) × Gave before after front
