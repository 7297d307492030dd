-- A payload that holds a message has one value, and the payload that is written for a value has that value.
use Rattle.std.proofs.Common.{◌≡◌, ◌≢◌, ℕ, ◌-◌, ◌≤◌, ◌⊎◌, true, List, [], ◌∷◌, length, map, refl, sym, ◌∙◌, ap, subst, inl, inr, arith, append-nil, length-append, Option, Some, None}
use Rattle.std.specs.List.{AllByRecursion}
use Rattle.ndef_format.specs.Messages.{Item, SpellsBy}
use Rattle.ndef_format.specs.Records.{Piece, Run}
use Rattle.ndef_format.specs.Canonical.{AreItems, canonical, whole_pieces}
use Rattle.ndef_format.specs.Laws.{OneMeaning, CanonicalSpells}
use Rattle.ndef_format.specs.declared.profile.Profile.{Profile}
use Rattle.ndef_format.specs.declared.profile.Profile.TheVariants.{Strict}
use Rattle.ndef_format.specs.NestedReasons.{NestReason}
use Rattle.ndef_nest.specs.Nested.{HandoversAreStrict, StrictContentsAreRead}
use Rattle.ndef_format.specs.Nested.{HasContents, IsNest, IsNestedBy, Nested}
use Rattle.ndef_format.specs.declared.table.Table.{Table}
use Rattle.ndef_format.specs.declared.table.Table.TheVariants.{SmartPoster, Request, Select}
use Rattle.ndef_types.specs.Contents.{StandsForMessage}
use Rattle.ndef_types.specs.Decoding.{EachHasValue, OneValue, ValuesRoundTrip}
use Rattle.ndef_types.specs.Handovers.{RequestValue, IsRequestValue, StandsForRequest, WritesRequest, SelectValue, IsSelectValue, AreSelected, StandsForSelect, WritesSelect, canonical_or_none, version_octet}
use Rattle.ndef_types.specs.Posters.{IsPosterValue, StandsForPoster, WritesPoster, plain}
use Rattle.ndef_types.proofs.NestedLemmas.{nested_items}
use Rattle.ndef_types.proofs.PosterLemmas.{plain_is_strict, plain_items, strict_is_plain}
use Rattle.ndef_types.proofs.RoundTripLemmas.{round_trip}

-- ---- one value

same_items : OneMeaning → (profile : Profile) (bytes : List ℕ) (a b : List Item) (runs others : List Run) → SpellsBy profile runs a bytes → SpellsBy profile others b bytes → a ≡ b
same_items one profile bytes a b runs others x y = (one profile profile a b bytes bytes [] (runs, x) (others, y) (sym (append-nil bytes))).0

-- a message has octets
none_is_flat : (profile : Profile) (runs : List Run) (items : List Item) → SpellsBy profile runs items [] → ⊥
none_is_flat profile [] items h = h.message.begins
none_is_flat profile (r ∷ runs) items h = let k = h.spelled in omega (arith, ap length k.3, length-append k.1 k.2, ap length k.4.spelled)

pub same_message : OneMeaning → (profile : Profile) (bytes : List ℕ) → (a b : Option (List Item)) → StandsForMessage profile bytes a → StandsForMessage profile bytes b → a ≡ b
same_message one profile bytes None None x y = refl
same_message one profile bytes None (Some b) x y = absurd (none_is_flat profile y.0 b (subst (SpellsBy profile y.0 b) x y.1))
same_message one profile bytes (Some a) None x y = absurd (none_is_flat profile x.0 a (subst (SpellsBy profile x.0 a) y x.1))
same_message one profile bytes (Some a) (Some b) x y = ap Some (same_items one profile bytes a b x.0 y.0 x.1 y.1)

pub one_poster : OneMeaning → (profile : Profile) → OneValue (IsNest SmartPoster 65535 profile) (StandsForPoster profile)
one_poster one profile payload v w h x y = x.3 ∙ ap (map plain) (same_items one profile payload x.1 y.1 x.0 y.0 x.2 y.2) ∙ sym y.3

pub one_request : OneMeaning → (profile : Profile) → OneValue (IsNest Request 65535 profile) (StandsForRequest profile)
one_request one profile [] v w h x y = absurd x
one_request one profile (version ∷ s) v w h x y =
    let a : v.minor ≡ w.minor = omega (arith, x.0, y.0) in
    let b = same_items one profile s v.items w.items x.1.0 y.1.0 x.1.1 y.1.1 in
    λ i. record { minor = a i; items = b i }

pub one_select : OneMeaning → (profile : Profile) → OneValue (IsNest Select 65535 profile) (StandsForSelect profile)
one_select one profile [] v w h x y = absurd x
one_select one profile (version ∷ s) v w h x y =
    let a : v.minor ≡ w.minor = omega (arith, x.0, y.0) in
    let b = same_message one profile s v.message w.message x.1 y.1 in
    λ i. record { minor = a i; message = b i }

-- ---- each has one

pub each_poster : (profile : Profile) → EachHasValue (IsNest SmartPoster 65535 profile) (StandsForPoster profile) IsPosterValue
each_poster profile payload h =
    let items = map plain h.1 in
    (items, (record { items = plain_items h.1 (nested_items SmartPoster profile h.0 h.1 payload h.2); contents = plain_is_strict profile h.1 h.2.contents }, (h.0, h.1, h.2.spelling, refl)))

pub each_request : HandoversAreStrict → (profile : Profile) → EachHasValue (IsNest Request 65535 profile) (StandsForRequest profile) IsRequestValue
each_request strict profile [] h = absurd h
each_request strict profile (version ∷ bytes) h =
    let n = h.1 in
    let v : RequestValue = record { minor = version - 16; items = n.1 } in
    let e : version ≡ version_octet (version - 16) = omega (arith, h.0.0) in (
      v,
      (record { minor = omega (arith, h.0.0, h.0.1); items = nested_items Request profile n.0 n.1 bytes n.2; contents = strict Request profile n.1 (λ p. cc) n.2.contents }, (e, (n.0, n.2.spelling))),
    )

each_message : HandoversAreStrict → (profile : Profile) (bytes : List ℕ) → (bytes ≡ []) ⊎ Nested Select 65535 profile bytes → (message : Option (List Item)) × (AreSelected message × StandsForMessage profile bytes message)
each_message strict profile bytes (inl e) = (None, (tt, e))
each_message strict profile bytes (inr n) = (Some n.1, ((nested_items Select profile n.0 n.1 bytes n.2, strict Select profile n.1 (λ p. cc) n.2.contents), (n.0, n.2.spelling)))

pub each_select : HandoversAreStrict → (profile : Profile) → EachHasValue (IsNest Select 65535 profile) (StandsForSelect profile) IsSelectValue
each_select strict profile [] h = absurd h
each_select strict profile (version ∷ bytes) h =
    let m = each_message strict profile bytes h.1 in
    let v : SelectValue = record { minor = version - 16; message = m.0 } in
    let e : version ≡ version_octet (version - 16) = omega (arith, h.0.0) in
    (v, (record { minor = omega (arith, h.0.0, h.0.1); message = m.1.0 }, (e, m.1.1)))

-- ---- what is written

-- a record in one piece
abbrev alone : Piece → Run
alone p = record { initial = p; later = [] }

are_alone : (ps : List Piece) → AllByRecursion (λ r. r.later ≡ []) (map alone ps)
are_alone [] = tt
are_alone (p ∷ ps) = (refl, are_alone ps)

not_none : (items : List Item) → 1 ≤ length items → items ≢ []
not_none items l e = omega (arith, ap length e)

abbrev written_runs : List Item → List Run
written_runs items = map alone (whole_pieces true items)

canonical_is_nested : CanonicalSpells → StrictContentsAreRead → (table : Table) (profile : Profile) (items : List Item) → AreItems items → HasContents table Strict items
    → IsNestedBy table 65535 profile (written_runs items) items (canonical items)
canonical_is_nested spelling read table profile items are h = record {
  spelling = spelling profile items (not_none items are.some) are.each;
  single = are_alone (whole_pieces true items);
  few = are.few;
  contents = read table profile items h;
}

poster_written : CanonicalSpells → StrictContentsAreRead → (profile : Profile) (items : List Item) (payload : List ℕ) → IsPosterValue items → WritesPoster items payload
    → IsNest SmartPoster 65535 profile payload × StandsForPoster profile payload items
poster_written spelling read profile items payload h e =
    let n = canonical_is_nested spelling read SmartPoster profile items h.items h.contents in
    rw e ((written_runs items, items, n), (written_runs items, items, n.spelling, sym (strict_is_plain items h.contents)))

pub posters_round_trip : OneMeaning → CanonicalSpells → StrictContentsAreRead → (profile : Profile)
    → ValuesRoundTrip (IsNest SmartPoster 65535 profile) (NestReason SmartPoster 65535 profile) (StandsForPoster profile) IsPosterValue WritesPoster
posters_round_trip one spelling read profile =
    round_trip (IsNest SmartPoster 65535 profile) (NestReason SmartPoster 65535 profile) (StandsForPoster profile) IsPosterValue WritesPoster (poster_written spelling read profile) (one_poster one profile)

request_written : CanonicalSpells → StrictContentsAreRead → (profile : Profile) (v : RequestValue) (payload : List ℕ) → IsRequestValue v → WritesRequest v payload
    → IsNest Request 65535 profile payload × StandsForRequest profile payload v
request_written spelling read profile v payload h e =
    let n = canonical_is_nested spelling read Request profile v.items h.items h.contents in
    let runs = written_runs v.items in
    let set : IsNest Request 65535 profile (version_octet v.minor ∷ canonical v.items) = ((omega (arith, h.minor), omega (arith, h.minor)), (runs, v.items, n)) in
    let stands : StandsForRequest profile (version_octet v.minor ∷ canonical v.items) v = (refl, (runs, n.spelling)) in
    rw e (set, stands)

pub requests_round_trip : OneMeaning → CanonicalSpells → StrictContentsAreRead → (profile : Profile)
    → ValuesRoundTrip (IsNest Request 65535 profile) (NestReason Request 65535 profile) (StandsForRequest profile) IsRequestValue WritesRequest
requests_round_trip one spelling read profile =
    round_trip (IsNest Request 65535 profile) (NestReason Request 65535 profile) (StandsForRequest profile) IsRequestValue WritesRequest (request_written spelling read profile) (one_request one profile)

message_written : CanonicalSpells → StrictContentsAreRead → (profile : Profile) (message : Option (List Item)) → AreSelected message
    → ((canonical_or_none message ≡ []) ⊎ Nested Select 65535 profile (canonical_or_none message)) × StandsForMessage profile (canonical_or_none message) message
message_written spelling read profile None h = (inl refl, refl)
message_written spelling read profile (Some items) h =
    let n = canonical_is_nested spelling read Select profile items h.0 h.1 in
    (inr (written_runs items, items, n), (written_runs items, n.spelling))

select_written : CanonicalSpells → StrictContentsAreRead → (profile : Profile) (v : SelectValue) (payload : List ℕ) → IsSelectValue v → WritesSelect v payload
    → IsNest Select 65535 profile payload × StandsForSelect profile payload v
select_written spelling read profile v payload h e =
    let m = message_written spelling read profile v.message h.message in
    let set : IsNest Select 65535 profile (version_octet v.minor ∷ canonical_or_none v.message) = ((omega (arith, h.minor), omega (arith, h.minor)), m.0) in
    let stands : StandsForSelect profile (version_octet v.minor ∷ canonical_or_none v.message) v = (refl, m.1) in
    rw e (set, stands)

pub selects_round_trip : OneMeaning → CanonicalSpells → StrictContentsAreRead → (profile : Profile)
    → ValuesRoundTrip (IsNest Select 65535 profile) (NestReason Select 65535 profile) (StandsForSelect profile) IsSelectValue WritesSelect
selects_round_trip one spelling read profile =
    round_trip (IsNest Select 65535 profile) (NestReason Select 65535 profile) (StandsForSelect profile) IsSelectValue WritesSelect (select_written spelling read profile) (one_select one profile)
