-- The bytes that complete a message.
use Rattle.std.specs.Prelude.{◌≡◌, ℕ, ◌^◌, ◌<◌, true, false, List, [], ◌∷◌, ◌++◌, ◌↔◌}
use Rattle.ndef_format.specs.Records.{Piece, IsPiece, HeadFields, fields, octets, body, Run}
use Rattle.ndef_format.specs.Messages.{Item, SpellsPieces, SpellsBy}
use Rattle.ndef_format.specs.Limits.{LimitValues, AreInRange, IsWithin}
use Rattle.ndef_format.specs.Positions.{MayOccur, IsOpen}
use Rattle.ndef_piece.specs.Heads.{IsViableHead}
use Rattle.ndef_piece.specs.Walk.{Before, start, spot, ending_record, after, Walk}

-- NDEF 1.0, messages: these bytes complete a message of which this is known, and end these records
abbrev pub Rest : LimitValues → Before → List ℕ → List Item → Type 0
Rest limits c bytes items = (ps : List Piece) × Walk limits c ps items × SpellsPieces ps bytes

-- ---- laws

-- From the start they are the messages within the limits.
abbrev pub RestsSpell : Type 0
RestsSpell = (limits : LimitValues) (items : List Item) (bytes : List ℕ) → AreInRange limits
    → Rest limits (start limits) bytes items ↔ ((runs : List Run)
    × SpellsBy limits.profile runs items bytes
    × IsWithin limits runs)

-- If the message is over, nothing follows.
abbrev pub RestsEnd : Type 0
RestsEnd = (limits : LimitValues) (c : Before) (bytes : List ℕ) (items : List Item) → c.over ≡ true
    → Rest limits c bytes items ↔ ((bytes ≡ []) × (items ≡ []))

-- Past a head that may occur: type, id and payload of some piece that has it, and the completion of
-- the message after that piece.
abbrev pub RestsPastHeads : Type 0
RestsPastHeads =
    (limits : LimitValues) (c : Before) (f : HeadFields) (bytes : List ℕ) (items : List Item)
    → c.over ≡ false → MayOccur (spot limits.profile c) f
    → Rest limits c (octets f ++ bytes) items
    ↔ ((p : Piece) × (later : List ℕ) × (rest : List Item) × IsPiece p × (fields p f.short ≡ f)
    × (bytes ≡ body p ++ later) × (items ≡ ending_record c p ++ rest)
    × Rest limits (after limits c p) later rest)

-- Within a head another octet follows, and it is one with which some head goes on.
abbrev pub RestsWithinHeads : Type 0
RestsWithinHeads =
    (limits : LimitValues) (c : Before) (xs bytes : List ℕ) (items : List Item) → c.over ≡ false
    → IsOpen (spot limits.profile c) xs
    → Rest limits c (xs ++ bytes) items → (b : ℕ) × (more : List ℕ) × (bytes ≡ b ∷ more)
    × IsViableHead (spot limits.profile c) (xs ++ b ∷ [])

-- After any head that may occur the message can be completed.
abbrev pub RestsCanFollow : Type 0
RestsCanFollow =
    (limits : LimitValues) (c : Before) (f : HeadFields) → AreInRange limits → c.over ≡ false
    → c.room < 2 ^ 32 → MayOccur (spot limits.profile c) f
    → (bytes : List ℕ) × (items : List Item) × Rest limits c (octets f ++ bytes) items
