-- The records of a poster that is written: a strict reader takes them for a poster.
use Rattle.std.proofs.Common.{◌≡◌, ℕ, ◌+◌, ◌≤◌, ◌==◌, Bool, true, false, cond, List, [], ◌∷◌, map, length, refl, ◌∙◌, ap, arith, inl, inr}
use Rattle.std.proofs.lemmas.Bool.{eqb-true}
use Rattle.std.proofs.lemmas.List.Elements.{recursion_from_All}
use Rattle.std.proofs.lemmas.List.Sums.{sum_by-append}
use Rattle.std.proofs.lemmas.Str.{scalars-chars}
use Rattle.std.specs.Int.{w32, to_be_bytes}
use Rattle.std.specs.List.{AllByRecursion}
use Rattle.std.specs.Prelude.{IsUtf8, count_by, if◌then◌else◌}
use Rattle.ndef_value.specs.ListLaws.{all_append}
use Rattle.ndef_format.specs.Messages.{Item}
use Rattle.ndef_format.specs.Nested.{is_uri, kind_in}
use Rattle.ndef_format.specs.Records.{AreOctets}
use Rattle.ndef_format.specs.Texts.{IsText}
use Rattle.ndef_format.specs.Uris.{IsUri}
use Rattle.ndef_format.specs.declared.kind.Kind.{Kind}
use Rattle.ndef_format.specs.declared.kind.Kind.TheVariants as kinds
use Rattle.ndef_format.specs.declared.profile.Profile.{Profile}
use Rattle.ndef_format.specs.declared.profile.Profile.TheVariants.{Strict}
use Rattle.ndef_format.specs.declared.table.Table.TheVariants.{SmartPoster}
use Rattle.ndef_types.specs.Decoding.{WritesPayloads}
use Rattle.ndef_types.specs.Posters.{IsPosterValue}
use Rattle.ndef_types.specs.Values.{IsTextValue, WritesText, WritesUri, text_payload}
use Rattle.ndef_c.specs.Appending.{well_known}
use Rattle.ndef_c.specs.PosterParts.{MayBeIcon, MayBeTitle, icon_item, title_item}
use Rattle.ndef_c.specs.PosterWrites.{MayBeAction, MayBeMedia, MayBeUri, PosterAsked, WrittenPostersAreRead, asked_for, media_of, uri_of}
use Rattle.ndef_c.specs.AlternativeWrites.{part_of}
use Rattle.ndef_c.specs.Texts.{asked_text}
use Rattle.ndef_c.specs.declared.poster_parts.NdefIconWriting.{NdefIconWriting}
use Rattle.ndef_c.specs.declared.poster_parts.NdefTitleWriting.{NdefTitleWriting}
use Rattle.ndef_c.specs.declared.poster_writing.NdefPosterWriting.{NdefPosterWriting}
use Rattle.ndef_c.proofs.Counted.{part_octets}
use Rattle.ndef_c.proofs.NestedRecords.{HasPayload, IsMember, IsNamed, are_items, each_payload, member_of, number_octets}

-- a record of a poster that isn't its URI
record IsBeside (i : Item) : Type 0 where
  member : IsMember SmartPoster i
  no_uri : is_uri (kind_in SmartPoster i.tnf i.kind) ≡ false

members : (items : List Item) → AllByRecursion IsBeside items → AllByRecursion (IsMember SmartPoster) items
members [] h = tt
members (i ∷ items) h = (h.0.member, members items h.1)

no_uris : (items : List Item) → AllByRecursion IsBeside items → count_by (λ i. is_uri (kind_in SmartPoster i.tnf i.kind)) items ≡ 0
no_uris [] h = refl
no_uris (i ∷ items) h = rw h.0.no_uri (no_uris items h.1)

beside : (kind : Kind) (payload : List ℕ) → IsNamed SmartPoster kind → is_uri kind ≡ false → HasPayload kind payload → IsBeside (well_known kind [] payload)
beside kind payload n e p = record { member = member_of SmartPoster kind payload n p; no_uri = ap is_uri n.kind_is ∙ e }

-- ---- the records

text_named : IsNamed SmartPoster kinds.Text
text_named = record { kind_is = refl; some = omega arith; few = omega arith; octets = (omega arith, tt) }

uri_named : IsNamed SmartPoster kinds.Uri
uri_named = record { kind_is = refl; some = omega arith; few = omega arith; octets = (omega arith, tt) }

action_named : IsNamed SmartPoster kinds.Action
action_named = record { kind_is = refl; some = omega arith; few = omega arith; octets = (omega arith, (omega arith, (omega arith, tt))) }

size_named : IsNamed SmartPoster kinds.Size
size_named = record { kind_is = refl; some = omega arith; few = omega arith; octets = (omega arith, tt) }

media_named : IsNamed SmartPoster kinds.MediaType
media_named = record { kind_is = refl; some = omega arith; few = omega arith; octets = (omega arith, tt) }

title_beside : WritesPayloads IsText IsTextValue WritesText → (bytes : List ℕ) (t : NdefTitleWriting) → MayBeTitle bytes t → IsBeside (title_item bytes t)
title_beside written bytes t may =
    let said = may.may.spelled in
    let v = asked_text t.utf16 (part_of bytes t.language) (part_of bytes t.text) in
    let value : IsTextValue v = record { short = said.short; language = said.ascii; text = scalars-chars (part_of bytes t.text) said.utf8 } in
    beside kinds.Text (text_payload v) text_named refl (record { in_set = written v (text_payload v) value refl; short = may.may.fits })

titles_beside : WritesPayloads IsText IsTextValue WritesText → (bytes : List ℕ) (titles : List NdefTitleWriting) → AllByRecursion (MayBeTitle bytes) titles → AllByRecursion IsBeside (map (title_item bytes) titles)
titles_beside written bytes [] h = tt
titles_beside written bytes (t ∷ titles) h = (title_beside written bytes t h.0, titles_beside written bytes titles h.1)

icon_beside : (bytes : List ℕ) (i : NdefIconWriting) → AreOctets bytes → MayBeIcon bytes i → IsBeside (icon_item bytes i)
icon_beside bytes i octets may = record {
  member = record {
    item = record {
      shaped = record { changed = λ e. absurd (cc); shape = may.some };
      lengths = record { kind = may.few; id = omega arith; payload = may.fits };
      kind = part_octets bytes i.media_type octets;
      id = tt;
      payload = part_octets bytes i.octets octets;
    };
    payload = part_octets bytes i.octets octets;
  };
  no_uri = refl;
}

icons_beside : (bytes : List ℕ) (icons : List NdefIconWriting) → AreOctets bytes → AllByRecursion (MayBeIcon bytes) icons → AllByRecursion IsBeside (map (icon_item bytes) icons)
icons_beside bytes [] octets h = tt
icons_beside bytes (i ∷ icons) octets h = (icon_beside bytes i octets h.0, icons_beside bytes icons octets h.1)

-- a record that is there if it is asked for
beside_if : (b : Bool) (kind : Kind) (payload : List ℕ) → IsNamed SmartPoster kind → is_uri kind ≡ false → (b ≡ true → HasPayload kind payload)
    → AllByRecursion IsBeside (if b then well_known kind [] payload ∷ [] else [])
beside_if true kind payload n e h = (beside kind payload n e (h refl), tt)
beside_if false kind payload n e h = tt

asked_beside : (has : ℕ) (kind : Kind) (payload : List ℕ) → IsNamed SmartPoster kind → is_uri kind ≡ false → (has ≡ 1 → HasPayload kind payload) → AllByRecursion IsBeside (asked_for has kind payload)
asked_beside has kind payload n e h = beside_if (has == 1) kind payload n e (λ t. h (eqb-true has 1 t))

action_payload : (how : NdefPosterWriting) → MayBeAction how → how.has_action ≡ 1 → HasPayload kinds.Action (how.action ∷ [])
action_payload how (inl none) e = absurd (omega (arith, none, e))
action_payload how (inr one) e = record { in_set = ((one.1, tt), refl); short = omega arith }

size_payload : (size : ℕ) → HasPayload kinds.Size (to_be_bytes w32 size)
size_payload size = record { in_set = (number_octets 4 size, refl); short = omega arith }

media_payload : (a : PosterAsked) → MayBeMedia a → a.how.has_media_type ≡ 1 → HasPayload kinds.MediaType (media_of a)
media_payload a (inl none) e = absurd (omega (arith, none, e))
media_payload a (inr one) e = record { in_set = one.1.utf8; short = one.1.fits }

uri_member : ((profile : Profile) → WritesPayloads (IsUri profile) IsUtf8 WritesUri) → (a : PosterAsked) (payload : List ℕ) → MayBeUri a payload → IsMember SmartPoster (well_known kinds.Uri [] payload)
uri_member written a payload may = member_of SmartPoster kinds.Uri payload uri_named (record { in_set = written Strict (uri_of a) payload may.utf8 may.is; short = may.short })

-- ---- the poster

one_uri : (payload : List ℕ) (items : List Item) → AllByRecursion IsBeside items → count_by (λ i. is_uri (kind_in SmartPoster i.tnf i.kind)) (well_known kinds.Uri [] payload ∷ items) ≡ 1
one_uri payload items others =
    sum_by-append (λ i. cond (is_uri (kind_in SmartPoster i.tnf i.kind)) 1 0) (well_known kinds.Uri [] payload ∷ []) items ∙ ap (λ n. 1 + n) (no_uris items others)

-- the URI and the others are a poster
poster_of : (payload : List ℕ) (items : List Item) → IsMember SmartPoster (well_known kinds.Uri [] payload) → AllByRecursion IsBeside items → length (well_known kinds.Uri [] payload ∷ items) ≤ 65535
    → IsPosterValue (well_known kinds.Uri [] payload ∷ items)
poster_of payload items uri others few =
    let all : AllByRecursion (IsMember SmartPoster) (well_known kinds.Uri [] payload ∷ items) = (uri, members items others) in
    record {
      items = are_items SmartPoster (well_known kinds.Uri [] payload) items all few;
      contents = record { members = each_payload SmartPoster (well_known kinds.Uri [] payload ∷ items) all; complete = one_uri payload items others };
    }

pub posters_read : WritesPayloads IsText IsTextValue WritesText → ((profile : Profile) → WritesPayloads (IsUri profile) IsUtf8 WritesUri) → WrittenPostersAreRead
posters_read texts uris a may octets =
    let said = may.said in
    let titles = titles_beside texts a.bytes a.titles (recursion_from_All (MayBeTitle a.bytes) a.titles may.titles) in
    let action = asked_beside a.how.has_action kinds.Action (a.how.action ∷ []) action_named refl (action_payload a.how said.action) in
    let size = asked_beside a.how.has_size kinds.Size (to_be_bytes w32 a.how.size) size_named refl (λ e. size_payload a.how.size) in
    let media = asked_beside a.how.has_media_type kinds.MediaType (media_of a) media_named refl (media_payload a said.media) in
    let icons = icons_beside a.bytes a.icons octets (recursion_from_All (MayBeIcon a.bytes) a.icons may.icons) in
    poster_of said.payload _ (uri_member uris a said.payload said.uri) (all_append IsBeside _ _ titles (all_append IsBeside _ _ action (all_append IsBeside _ _ size (all_append IsBeside _ _ media icons)))) may.few
