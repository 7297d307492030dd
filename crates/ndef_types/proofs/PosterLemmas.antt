-- Posters, and the messages that are the values of their payloads.
use Rattle.std.proofs.Common.{◌≡◌, ◌≢◌, ℕ, suc, ◌+◌, ◌<◌, ◌^◌, Bool, true, false, length, subst, List, [], ◌∷◌, ◌++◌, map, refl, sym, ◌∙◌, ap, inl, inr, arith, lt-ltb, le-ltb, take, Some, append-nil}
use Rattle.std.specs.Prelude.{if◌then◌else◌, slice_get}
use Rattle.std.specs.List.{AllByRecursion}
use Rattle.std.proofs.lemmas.Bool.{cases_lt}
use Rattle.std.proofs.lemmas.List.Sums.{sum_by-cons}
use Rattle.ndef_format.specs.Canonical.{AreItems, IsItem}
use Rattle.ndef_format.specs.Records.{AreOctets, HasShape}
use Rattle.ndef_format.specs.Messages.{Item}
use Rattle.ndef_format.specs.declared.profile.Profile.{Profile}
use Rattle.ndef_format.specs.declared.profile.Profile.TheVariants.{Strict}
use Rattle.ndef_format.specs.declared.kind.Kind.{Kind}
use Rattle.ndef_format.specs.declared.kind.Kind.TheVariants as kinds
use Rattle.ndef_format.specs.Nested.{IsPayload, HasContents, kind_in, is_uri}
use Rattle.ndef_format.specs.Uris.{IsUri}
use Rattle.ndef_format.specs.declared.table.Table.TheVariants.{SmartPoster}
use Rattle.ndef_types.proofs.ContentsLemmas.{filter_grows, filter_some}
use Rattle.ndef_types.specs.ContentsLaws.{uris, one_if_uri}
use Rattle.ndef_types.specs.Posters.{plain, plain_code, plain_payload, is_text, titles, StandForTexts}
use Rattle.ndef_types.specs.Values.{TextValue, StandsForText}

-- ---- codes

strict_code : (code : ℕ) → (0x23 < code → ⊥) → plain_code code ≡ code
strict_code code f = elim (cases_lt 0x23 code) [ inl x ↦ absurd (f x) | inr x ↦ rw (le-ltb 0x23 code x) refl ]

strict_part : (kind : Kind) (payload : List ℕ) → IsPayload kind Strict payload → (if is_uri kind then plain_payload payload else payload) ≡ payload
strict_part kinds.Uri [] h = refl
strict_part kinds.Uri (code ∷ rest) h = ap (λ c. c ∷ rest) (strict_code code h.1)
strict_part _ payload h = refl

strict_plain : (i : Item) → IsPayload (kind_in SmartPoster i.tnf i.kind) Strict i.payload → plain i ≡ i
strict_plain i h = ap (λ p. record i { payload = p }) (strict_part (kind_in SmartPoster i.tnf i.kind) i.payload h)

strict_all : (items : List Item) → AllByRecursion (λ i. IsPayload (kind_in SmartPoster i.tnf i.kind) Strict i.payload) items → map plain items ≡ items
strict_all [] h = refl
strict_all (i ∷ items) h = λ k. strict_plain i h.0 k ∷ strict_all items h.1 k

pub strict_is_plain : (items : List Item) → HasContents SmartPoster Strict items → map plain items ≡ items
strict_is_plain items h = strict_all items h.members

plain_uri : (profile : Profile) (payload : List ℕ) → IsUri profile payload → IsUri Strict (plain_payload payload)
plain_uri profile [] h = h
plain_uri profile (code ∷ rest) h =
    elim (cases_lt 0x23 code) [
      | inl x ↦ rw (lt-ltb 0x23 code x) (omega arith, λ k. omega arith, h.2)
      | inr x ↦ rw (le-ltb 0x23 code x) (h.0, λ k. omega arith, h.2)
    ]

plain_part : (profile : Profile) (kind : Kind) (payload : List ℕ) → IsPayload kind profile payload → IsPayload kind Strict (if is_uri kind then plain_payload payload else payload)
plain_part profile kinds.Uri payload h = plain_uri profile payload h
plain_part profile _ payload h = h

plain_members : (profile : Profile) (items : List Item) → AllByRecursion (λ i. IsPayload (kind_in SmartPoster i.tnf i.kind) profile i.payload) items
    → AllByRecursion (λ i. IsPayload (kind_in SmartPoster i.tnf i.kind) Strict i.payload) (map plain items)
plain_members profile [] h = tt
plain_members profile (i ∷ items) h = (plain_part profile (kind_in SmartPoster i.tnf i.kind) i.payload h.0, plain_members profile items h.1)

plain_uris : (items : List Item) → uris (map plain items) ≡ uris items
plain_uris [] = refl
plain_uris (i ∷ items) = sum_by-cons one_if_uri (plain i) (map plain items) ∙ ap (λ n. one_if_uri i + n) (plain_uris items) ∙ sym (sum_by-cons one_if_uri i items)

pub plain_is_strict : (profile : Profile) (items : List Item) → HasContents SmartPoster profile items → HasContents SmartPoster Strict (map plain items)
plain_is_strict profile items h = record { members = plain_members profile items h.members; complete = plain_uris items ∙ h.complete }

plain_length : (payload : List ℕ) → length (plain_payload payload) ≡ length payload
plain_length [] = refl
plain_length (code ∷ rest) = refl

plain_octets : (payload : List ℕ) → AreOctets payload → AreOctets (plain_payload payload)
plain_octets [] h = tt
plain_octets (code ∷ rest) h =
    elim (cases_lt 0x23 code) [
      | inl x ↦ rw (lt-ltb 0x23 code x) (omega arith, h.1)
      | inr x ↦ rw (le-ltb 0x23 code x) h
    ]

with_payload : (i : Item) (payload : List ℕ) → IsItem i → length payload ≡ length i.payload → AreOctets payload → IsItem (record i { payload = payload })
with_payload i payload h e o = record {
  shaped = record { changed = h.shaped.changed; shape = subst (HasShape i.tnf (length i.kind) (length i.id)) (sym e) h.shaped.shape };
  lengths = record { kind = h.lengths.kind; id = h.lengths.id; payload = subst (λ n. n < 2 ^ 32) (sym e) h.lengths.payload };
  kind = h.kind;
  id = h.id;
  payload = o;
}

plain_part_item : (b : Bool) (i : Item) → IsItem i → IsItem (record i { payload = if b then plain_payload i.payload else i.payload })
plain_part_item true i h = with_payload i (plain_payload i.payload) h (plain_length i.payload) (plain_octets i.payload h.payload)
plain_part_item false i h = with_payload i i.payload h refl h.payload

pub plain_item : (i : Item) → IsItem i → IsItem (plain i)
plain_item i h = plain_part_item (is_uri (kind_in SmartPoster i.tnf i.kind)) i h

plain_each : (items : List Item) → AllByRecursion IsItem items → AllByRecursion IsItem (map plain items)
plain_each [] h = tt
plain_each (i ∷ items) h = (plain_item i h.0, plain_each items h.1)

plain_count : (items : List Item) → length (map plain items) ≡ length items
plain_count [] = refl
plain_count (i ∷ items) = ap suc (plain_count items)

pub plain_items : (items : List Item) → AreItems items → AreItems (map plain items)
plain_items items h = record { some = omega (arith, plain_count items, h.some); few = omega (arith, plain_count items, h.few); each = plain_each items h.each }

-- ---- titles

no_text_kind : (kind : Kind) → kind ≢ kinds.Text → is_text kind ≡ false
no_text_kind kinds.Text h = absurd (h refl)
no_text_kind _ h = refl

stand_more : (items : List Item) (values : List TextValue) (i : Item) (v : TextValue) → StandForTexts items values → StandsForText i.payload v → StandForTexts (items ++ i ∷ []) (values ++ v ∷ [])
stand_more [] [] i v h k = (k, tt)
stand_more [] (w ∷ values) i v h k = absurd h
stand_more (j ∷ items) [] i v h k = absurd h
stand_more (j ∷ items) (w ∷ values) i v h k = (h.0, stand_more items values i v h.1 k)

pub title_more : (items : List Item) (n : ℕ) (i : Item) (values : List TextValue) (v : TextValue) → slice_get items n ≡ Some i → kind_in SmartPoster i.tnf i.kind ≡ kinds.Text
    → StandForTexts (titles (take n items)) values → StandsForText i.payload v → StandForTexts (titles (take (n + 1) items)) (values ++ v ∷ [])
title_more items n i values v e k h s =
    let x : titles (take (n + 1) items) ≡ titles (take n items) ++ i ∷ [] = filter_grows (λ j. is_text (kind_in SmartPoster j.tnf j.kind)) items n i e ∙ ap (λ kind. titles (take n items) ++ (if is_text kind then i ∷ [] else [])) k in
    rw x (stand_more (titles (take n items)) values i v h s)

pub title_same : (items : List Item) (n : ℕ) (i : Item) (values : List TextValue) → slice_get items n ≡ Some i → kind_in SmartPoster i.tnf i.kind ≢ kinds.Text
    → StandForTexts (titles (take n items)) values → StandForTexts (titles (take (n + 1) items)) values
title_same items n i values e k h =
    let x : titles (take (n + 1) items) ≡ titles (take n items) =
    filter_grows (λ j. is_text (kind_in SmartPoster j.tnf j.kind)) items n i e ∙ ap (λ b. titles (take n items) ++ (if b then i ∷ [] else [])) (no_text_kind (kind_in SmartPoster i.tnf i.kind) k) ∙ append-nil (titles (take n items)) in
    rw x h

pub one_title : (items : List Item) (n : ℕ) (i : Item) → slice_get items n ≡ Some i → kind_in SmartPoster i.tnf i.kind ≡ kinds.Text → titles items ≢ []
one_title items n i e k = filter_some (λ j. is_text (kind_in SmartPoster j.tnf j.kind)) items n i e (ap is_text k)
