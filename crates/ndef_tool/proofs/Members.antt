-- The payloads of the records that are read.
use Rattle.std.proofs.Common.{ℕ, ◌≤◌, List, [], ◌∷◌, arith, inl, inr, Option, Ok, Bool}
use Rattle.std.specs.List.{AllByRecursion}
use Rattle.ndef_format.specs.Limits.{AreInRange, LimitValues}
use Rattle.ndef_format.specs.Messages.{Item}
use Rattle.ndef_format.specs.declared.profile.Profile.{Profile}
use Rattle.ndef_format.specs.Kinds.{kind_of}
use Rattle.ndef_format.specs.declared.kind.Kind.{Kind}
use Rattle.ndef_format.specs.declared.kind.Kind.TheVariants as kinds
use Rattle.ndef_format.specs.Nested.{IsNest, Nested}
use Rattle.ndef_format.specs.Payloads.{IsTypedPayload, IsKindPayload}
use Rattle.ndef_format.specs.declared.table.Table.{Table}
use Rattle.ndef_format.specs.declared.table.Table.TheVariants as tables
use Rattle.ndef_format.specs.Accepted.{IsMember}
use Rattle.ndef_message.specs.declared.message_reading.Read.{Read}
use Rattle.ndef_format.specs.Reasons.{Conditions}
use Rattle.ndef_tool.specs.Rules.{rules_of}
use Rattle.ndef_tool.specs.Sessions.{IsNext}
use Rattle.ndef_tool.specs.Showing.{IsTyped}

-- ---- where more records are let in

nested_on : (table : Table) (n : ℕ) (profile : Profile) (s : List ℕ) → n ≤ 65535 → Nested table n profile s → Nested table 65535 profile s
nested_on table n profile s h d = (
  d.0,
  d.1,
  record {
    spelling = d.2.spelling;
    single = d.2.single;
    few = omega (arith, d.2.few);
    contents = d.2.contents;
  },
)

nest_on : (table : Table) (n : ℕ) (profile : Profile) (s : List ℕ) → n ≤ 65535 → IsNest table n profile s → IsNest table 65535 profile s
nest_on tables.SmartPoster n profile s h d = nested_on tables.SmartPoster n profile s h d
nest_on tables.Request n profile [] h d = d
nest_on tables.Request n profile (v ∷ s) h d = (d.0, nested_on tables.Request n profile s h d.1)
nest_on tables.Select n profile [] h d = d
nest_on tables.Select n profile (v ∷ s) h (v', inl e) = (v', inl e)
nest_on tables.Select n profile (v ∷ s) h (v', inr d) = (v', inr (nested_on tables.Select n profile s h d))

typed_on : (kind : Kind) (n : ℕ) (profile : Profile) (s : List ℕ) → n ≤ 65535 → IsKindPayload kind n profile s → IsKindPayload kind 65535 profile s
typed_on kinds.SmartPoster n profile s h d = nest_on tables.SmartPoster n profile s h d
typed_on kinds.Request n profile s h d = nest_on tables.Request n profile s h d
typed_on kinds.Select n profile s h d = nest_on tables.Select n profile s h d
typed_on _ n profile s h d = d

-- what is read within limits has payloads of its types
members_on : (limits : LimitValues) (items : List Item) → limits.records ≤ 65535 → AllByRecursion (IsMember IsTypedPayload limits) items
    → AllByRecursion (IsTyped limits.profile) items
members_on limits [] h all = all
members_on limits (i ∷ items) h all =
    (typed_on (kind_of i.tnf i.kind) limits.records limits.profile i.payload h all.0, members_on limits items h all.1)

pub next_typed : (holds : Conditions) (limits : LimitValues) (count : ℕ) (before after : Option (List ℕ)) (failed : Bool) (read : Read) → AreInRange limits
    → IsNext (rules_of IsTypedPayload holds limits) count before after failed (Ok read) → AllByRecursion (IsTyped limits.profile) read.message
next_typed holds limits count before after failed read range h = members_on limits read.message (omega (arith, range.records.1)) h.2.3.members
