-- The records of nested messages, at a place and by their kinds.
use Rattle.std.proofs.Common.{◌≡◌, ℕ, suc, zero, false, List, [], ◌∷◌, refl, subst, arith, Some}
use Rattle.std.specs.Prelude.{slice_get, if◌then◌else◌, count_by}
use Rattle.std.specs.List.{AllByRecursion}
use Rattle.std.proofs.lemmas.List.Sums.{sum_by-cons}
use Rattle.ndef_format.specs.Messages.{Item}
use Rattle.ndef_format.specs.declared.kind.Kind.{Kind}
use Rattle.ndef_format.specs.declared.kind.Kind.TheVariants as kinds
use Rattle.ndef_format.specs.Nested.{kind_in, is_uri}
use Rattle.ndef_format.specs.declared.table.Table.TheVariants.{SmartPoster}
use Rattle.ndef_types.specs.Contents.{IsOfKind, Lack}

-- what holds of each record holds of that at k
pub has_at : (P : Item → Type 0) (items : List Item) (k : ℕ) (i : Item) → AllByRecursion P items
    → slice_get items k ≡ Some i → P i
has_at P [] k i h e = absurd (cc)
has_at P (j ∷ items) zero i h e = let p : j ≡ i = cc in subst P p h.0
has_at P (j ∷ items) (suc k) i h e = has_at P items k i h.1 e

-- the number of the records that are URIs
abbrev pub uris : List Item → ℕ
uris = count_by (λ i. is_uri (kind_in SmartPoster i.tnf i.kind))

abbrev pub one_if_uri : Item → ℕ
one_if_uri i = if is_uri (kind_in SmartPoster i.tnf i.kind) then 1 else 0

pub not_uri : (kind : Kind) → (kind ≡ kinds.Uri → ⊥) → is_uri kind ≡ false
not_uri kinds.Uri h = absurd (h refl)
not_uri _ h = refl

pub no_uris : (items : List Item) → Lack (IsOfKind SmartPoster kinds.Uri) items → uris items ≡ 0
no_uris [] h = refl
no_uris (i ∷ items) h =
    let e : one_if_uri i ≡ 0 = rw (not_uri (kind_in SmartPoster i.tnf i.kind) h.0) refl in
    omega (arith, e, sum_by-cons one_if_uri i items, no_uris items h.1)
