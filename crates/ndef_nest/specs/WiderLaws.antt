-- Payloads of a message within some limits, as a reader with wider ones takes them.
use Rattle.std.proofs.Common.{◌≡◌, ℕ, ◌≤◌, ◌⊎◌, inl, inr, arith, List, [], ◌∷◌, Option, Some, None}
use Rattle.ndef_format.specs.Kinds.{outer_kind}
use Rattle.ndef_format.specs.Laws.{IsNoStricter, PayloadsStay}
use Rattle.ndef_format.specs.Messages.{Item}
use Rattle.ndef_format.specs.Nested.{HasContents, IsNest, IsPayload, Nested, kind_in, table_in}
use Rattle.ndef_format.specs.Payloads.{IsTypedBy, IsKindPayload}
use Rattle.ndef_format.specs.declared.kind.Kind.{Kind}
use Rattle.ndef_format.specs.declared.profile.Profile.{Profile}
use Rattle.ndef_format.specs.declared.table.Table.{Table}
use Rattle.ndef_format.specs.declared.table.Table.TheVariants.{SmartPoster, Request, Select}
use Rattle.ndef_lang.specs.ProfileLaws.{payload_for_more}
use Rattle.ndef_value.specs.ListLaws.{all_more}
use Rattle.ndef_value.specs.ProfileLaws.{spelling_for_more}

pub contents_for_more : (table : Table) (profile other : Profile) (items : List Item) → IsNoStricter profile other
    → HasContents table profile items → HasContents table other items
contents_for_more table profile other items a h = record {
  members = all_more (λ i. IsPayload (kind_in table i.tnf i.kind) profile i.payload)
      (λ i. IsPayload (kind_in table i.tnf i.kind) other i.payload) items
      (λ i x. payload_for_more (kind_in table i.tnf i.kind) profile other i.payload a x) h.members;
  complete = h.complete;
}

module _ (records more : ℕ) (profile other : Profile) (few : records ≤ more) (a : IsNoStricter profile other) where
  nested_stays : (table : Table) (s : List ℕ) → Nested table records profile s → Nested table more other s
  nested_stays table s (runs, items, n) = (
    runs,
    items,
    record {
      spelling = spelling_for_more profile other runs items s a n.spelling;
      single = n.single;
      few = (let f = n.few in omega (arith, few));
      contents = contents_for_more table profile other items a n.contents;
    },
  )

  nest_stays : (table : Table) (s : List ℕ) → IsNest table records profile s → IsNest table more other s
  nest_stays SmartPoster s n = nested_stays SmartPoster s n
  nest_stays Request [] n = absurd n
  nest_stays Request (v ∷ s) n = (n.0, nested_stays Request s n.1)
  nest_stays Select [] n = absurd n
  nest_stays Select (v ∷ s) n = (n.0, by_rest n.1)
    where
      by_rest : (s ≡ []) ⊎ Nested Select records profile s → (s ≡ []) ⊎ Nested Select more other s
      by_rest (inl e) = inl e
      by_rest (inr m) = inr (nested_stays Select s m)

  typed_stays_by : (table : Option Table) (kind : Kind) (s : List ℕ) → IsTypedBy table kind records profile s
      → IsTypedBy table kind more other s
  typed_stays_by (Some table) kind s n = nest_stays table s n
  typed_stays_by None kind s n = payload_for_more (outer_kind kind) profile other s a n

-- a payload of a record of a message is one within wider limits
pub typed_stays : PayloadsStay IsKindPayload
typed_stays kind records more profile other s few a n =
    typed_stays_by records more profile other few a (table_in kind) kind s n
