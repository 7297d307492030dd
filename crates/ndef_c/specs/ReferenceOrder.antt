-- The order of the references of a handover.
use Rattle.std.specs.Prelude.{◌≡◌, ◌≢◌, ℕ, ◌-◌, ◌<◌, Bool, List, [], ◌∷◌, slice_index_or, ⊤, ◌⊎◌, Some}
use Rattle.std.specs.Cmp.Lexicographic.{slice_cmp}
use Rattle.std.specs.List.{AllByRecursion}
use Rattle.std.specs.Ordering.{is_lt, nat_cmp, ordering_then}
use Rattle.std.specs.declared.cmp.Ordering.{Ordering}
use Rattle.ndef_c.specs.HandoverItems.{name_in}
use Rattle.ndef_c.specs.Links.{TellsPlace}
use Rattle.ndef_c.specs.declared.message.Place.{Place}
use Rattle.ndef_c.specs.declared.reference_items.NdefReferenceItem.{NdefReferenceItem}

-- the one that is less comes first, or else the one of the earlier carrier, or the earlier one of a
-- carrier
abbrev pub order : List ℕ → NdefReferenceItem → NdefReferenceItem → Ordering
order payload a b =
    ordering_then
    (ordering_then (slice_cmp nat_cmp (name_in payload a) (name_in payload b)) (nat_cmp a.carrier b.carrier))
    (nat_cmp a.number b.number)

abbrev pub comes_first : List ℕ → NdefReferenceItem → NdefReferenceItem → Bool
comes_first payload a b = is_lt (order payload a b)

abbrev pub has_smaller_name : List ℕ → NdefReferenceItem → NdefReferenceItem → Bool
has_smaller_name payload a b = is_lt (slice_cmp nat_cmp (name_in payload a) (name_in payload b))

-- each is of an earlier carrier than those after it, or an earlier one of the same carrier
abbrev pub ArePlaced : List NdefReferenceItem → Type 0
ArePlaced [] = ⊤
ArePlaced (r ∷ rs) =
    AllByRecursion (λ s. (r.carrier < s.carrier) ⊎ ((r.carrier ≡ s.carrier) × (r.number < s.number))) rs
    × ArePlaced rs

-- the reference with the index is not the one before it
abbrev pub IsHead : List ℕ → List NdefReferenceItem → ℕ → Type 0
IsHead payload items k = (k ≡ 0) ⊎ ((d : NdefReferenceItem)
    → name_in payload (slice_index_or items (k - 1) d) ≢ name_in payload (slice_index_or items k d))

-- a reference that is the id and has no record gets the one at the place, and any other one stays as it is
abbrev pub Links : List ℕ → List ℕ → Place → (before after : NdefReferenceItem) → Type 0
Links payload id place before after =
    ((name_in payload before ≡ id) × (before.has_record ≡ 0)
    × TellsPlace (Some place) after.has_record after.record_index after.record_at)
    ⊎ (((name_in payload before ≢ id) ⊎ (before.has_record ≢ 0)) × (after ≡ before))
