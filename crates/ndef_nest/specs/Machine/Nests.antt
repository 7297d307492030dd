-- The completions of the payload that a nest reads, and their possible lengths.
use Rattle.std.specs.Prelude.{◌≡◌, ℕ, ◌^◌, ◌<◌, ◌≤◌, Bool, false, List, [], ◌∷◌, ◌↔◌, ◌⊎◌}
use Rattle.ndef_format.specs.declared.spot.Spot.{Spot}
use Rattle.ndef_format.specs.declared.kind.Kind.{Kind}
use Rattle.ndef_format.specs.Records.{AreOctets}
use Rattle.ndef_format.specs.declared.profile.Profile.{Profile}
use Rattle.ndef_format.specs.declared.reason.Reason.{Reason}
use Rattle.ndef_nest.specs.declared.nest.Nest.{Nest}
use Rattle.ndef_nest.specs.declared.context.Context.{Context}
use Rattle.ndef_nest.specs.declared.phase.NestPhase.{NestPhase}
use Rattle.ndef_nest.specs.declared.phase.NestPhase.TheVariants as phases
use Rattle.ndef_format.specs.declared.table.Table.TheVariants.{Select}
use Rattle.ndef_format.specs.Nested.{table_of}
use Rattle.ndef_nest.specs.Machine.Demands.{nested_spot}
use Rattle.ndef_nest.specs.Machine.Phases.{Completes, fits, head_span, is_first_octet, span_of}
use Rattle.ndef_nest.specs.Machine.Reached.{HasCome, IsReached}
use Rattle.ndef_nest.specs.Machine.Spans.{PassesAt, IsSpan}

-- the octets that complete the octets so far
abbrev pub future : Nest → List ℕ → Type 0
future n r = Completes n.context n.reader.spot.first n.reader.octets n.phase r

-- some lo to hi octets complete them
abbrev pub nest_fits : Nest → ℕ → ℕ → Bool
nest_fits n = fits n.context n.reader.spot.first n.reader.octets n.phase

-- the ranges of the octets that complete a message that has begun, and of those that complete its open head
abbrev pub nest_span : Nest → ℕ × ℕ
nest_span n = span_of n.context n.reader.spot.first n.reader.octets n.phase

abbrev pub nest_head_span : Nest → ℕ × ℕ
nest_head_span n = head_span n.context n.reader.spot.first n.reader.octets

-- the spot of a record that begins with the next octet
abbrev pub nest_spot : Nest → Spot
nest_spot n = nested_spot n.context.profile (is_first_octet n.phase n.reader.spot.first) n.context.records

-- the reason of the octet taken last
abbrev pub nest_reason : Nest → Reason
nest_reason n = n.reason

-- the octets of the message so far, once it has begun
abbrev pub come : Nest → ℕ → List ℕ → Type 0
come n records m = HasCome n.context n.reader.spot.first n.reader.octets n.phase records m

-- the octets so far of a payload of the kind
abbrev pub reached : Nest → Kind → ℕ → Profile → List ℕ → Type 0
reached n kind records profile s =
    (n.context.table ≡ table_of kind) × (n.context.profile ≡ profile)
    × IsReached n.context n.reader.spot.first n.reader.octets n.phase records s

-- the same, where no octet of a head has come
abbrev pub reached_after : Context → NestPhase → Kind → ℕ → Profile → List ℕ → Type 0
reached_after c phase kind records profile s =
    (c.table ≡ table_of kind) × (c.profile ≡ profile) × IsReached c false [] phase records s

-- the lengths below 2 ^ 32 of the lists that pass are one number, and all from another on
abbrev pub IsGap : (List ℕ → Type 0) → ℕ → ℕ → Type 0
IsGap pass one low = (n : ℕ) → n < 2 ^ 32 → PassesAt pass n ↔ ((n ≡ one) ⊎ (low ≤ n))

-- Connection Handover 1.2, version octet: a select before it
abbrev pub IsUnreadSelect : Nest → Type 0
IsUnreadSelect n = (n.context.table ≡ Select) × (n.phase ≡ phases.Version)

-- Connection Handover 1.2, version octet: a select after it
abbrev pub IsVersionedSelect : Nest → Type 0
IsVersionedSelect n = (n.context.table ≡ Select) × (n.phase ≡ phases.Start)

-- ---- laws

-- The numbers of octets that complete a payload are those from a least to a greatest, or none. The exceptions are a
-- select before its version octet, of 1 octet or 4 and more, and after it, of 0 or 3 and more.
abbrev pub LengthsHaveRanges : Type 0
LengthsHaveRanges = (n : Nest)
    → ((span : ℕ × ℕ) × IsSpan (future n) span) ⊎ (IsUnreadSelect n × IsGap (future n) 1 4)
    ⊎ (IsVersionedSelect n × IsGap (future n) 0 3)

-- A select before its version octet has taken no octet, and one after it has taken one octet.
abbrev pub SelectRangesAreExact : Type 0
SelectRangesAreExact = (n : Nest) (kind : Kind) (records : ℕ) (profile : Profile) (s : List ℕ)
    → reached n kind records profile s
    → (IsUnreadSelect n → s ≡ []) × (IsVersionedSelect n → (version : ℕ) × (s ≡ version ∷ []))

-- The completions of a payload are octets.
abbrev pub CompletionsAreOctets : Type 0
CompletionsAreOctets = (n : Nest) (r : List ℕ) → future n r → AreOctets r
