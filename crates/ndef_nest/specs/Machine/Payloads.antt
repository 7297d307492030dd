-- The payload of a record of a message that is half read.
use Rattle.std.specs.Prelude.{◌≡◌, ℕ, Bool, true, false, is_some, List}
use Rattle.ndef_format.specs.declared.profile.Profile.{Profile}
use Rattle.ndef_format.specs.declared.reason.Reason.{Reason}
use Rattle.ndef_lang.specs.Lengths.{meets}
use Rattle.ndef_lang.specs.Machine.Leaf.{CompletesLeaf, LeafReached, leaf_reason, leaf_lengths}
use Rattle.ndef_format.specs.Kinds.{outer_kind}
use Rattle.ndef_format.specs.Nested.{table_in}
use Rattle.ndef_format.specs.declared.kind.Kind.{Kind}
use Rattle.ndef_nest.specs.declared.typed.Typed.{Typed}
use Rattle.ndef_nest.specs.declared.typed.Typed.TheVariants.{Leaf, Nest}
use Rattle.ndef_nest.specs.Machine.Nests.{future, reached, nest_fits, nest_reason}

-- RTD Smart Poster 1.0 and Connection Handover 1.2: the payloads of the kind hold messages
abbrev pub is_nest : Kind → Bool
is_nest kind = is_some (table_in kind)

-- the octets that complete a payload
abbrev pub CompletesTyped : Typed → List ℕ → Type 0
CompletesTyped (Leaf leaf) r = CompletesLeaf leaf r
CompletesTyped (Nest nest) r = future nest r

-- the octets so far
abbrev pub TypedReached : Typed → Kind → ℕ → Profile → List ℕ → Type 0
TypedReached (Leaf leaf) kind records profile s = (is_nest kind ≡ false) × LeafReached leaf (outer_kind kind) profile s
TypedReached (Nest nest) kind records profile s = (is_nest kind ≡ true) × reached nest kind records profile s

-- the reason of the octet taken last
abbrev pub typed_reason : Typed → Reason
typed_reason (Leaf leaf) = leaf_reason leaf
typed_reason (Nest nest) = nest_reason nest

-- some lo to hi octets complete a payload
abbrev pub typed_fits : Typed → ℕ → ℕ → Bool
typed_fits (Leaf leaf) = meets (leaf_lengths leaf)
typed_fits (Nest nest) = nest_fits nest
