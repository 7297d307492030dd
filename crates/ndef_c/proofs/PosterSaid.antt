-- The properties of a poster that is written, and the series of its records.
use Rattle.std.proofs.Common.{◌≡◌, ℕ, ◌%◌, ◌<◌, ◌≤◌, ◌^◌, ◌==◌, Bool, true, false, List, [], ◌∷◌, ◌++◌, map, length, refl, sym, ◌∙◌, ap, subst, arith, inl, inr, append-nil, Bor, Some, None}
use Rattle.std.specs.Prelude.{IfNone, IsUtf8, Option, ◌⊎◌, if◌then◌else◌}
use Rattle.std.specs.List.{All}
use Rattle.std.proofs.lemmas.Bool.{eqb-true}
use Rattle.std.proofs.lemmas.List.{length-map}
use Rattle.std.proofs.lemmas.List.Elements.{All-from_recursion}
use Rattle.ndef_format.specs.Canonical.{canonical}
use Rattle.ndef_format.specs.Messages.{Item}
use Rattle.ndef_format.specs.declared.kind.Kind.{Kind}
use Rattle.ndef_format.specs.declared.kind.Kind.TheVariants as kinds
use Rattle.ndef_types.specs.Decoding.{OnePayload}
use Rattle.ndef_types.specs.Values.{WritesUri}
use Rattle.ndef_c.specs.AlternativeWrites.{IsPartWithin}
use Rattle.ndef_c.specs.Appending.{well_known}
use Rattle.ndef_c.specs.PendingRecord.{made_item}
use Rattle.ndef_c.specs.PosterParts.{IsUriItem, MayBeIcon, MayBeTitle, icon_item, title_item}
use Rattle.ndef_c.specs.PosterWrites.{AreSaid, GivesPoster, MayBeAsked, MayBeMedia, MayBePoster, MayBeUri, PosterAsked, asked_for, media_of, poster_items, uri_of}
use Rattle.ndef_c.specs.Buffers.{Gives}
use Rattle.ndef_c.specs.RecordList.{AreSeries, IsSeries, MayBeMessage, all_items, series_items}
use Rattle.ndef_c.specs.declared.poster_parts.NdefIconWriting.{NdefIconWriting}
use Rattle.ndef_c.specs.declared.poster_parts.NdefTitleWriting.{NdefTitleWriting}
use Rattle.ndef_c.specs.declared.poster_writing.PosterProperties.{PosterProperties}
use Rattle.ndef_c.specs.declared.record_list.RecordList.{RecordList}
use Rattle.ndef_c.specs.declared.record_list.RecordList.TheVariants as several

pub none_by : {A P Q : Type 0} (r : Option A) → (P → Q) → IfNone r P → IfNone r Q
none_by None f h = f h
none_by (Some x) f h = h

-- ---- what is asked for

-- a record that is asked for has these octets
asked_if : (b : Bool) (kind : Kind) (octets payload : List ℕ) → (b ≡ true → octets ≡ payload)
    → (if b then well_known kind [] octets ∷ [] else []) ≡ (if b then well_known kind [] payload ∷ [] else [])
asked_if true kind octets payload h = ap (λ s. well_known kind [] s ∷ []) (h refl)
asked_if false kind octets payload h = refl

pub asked_is : (has : ℕ) (kind : Kind) (octets payload : List ℕ) → (has ≡ 1 → octets ≡ payload) → asked_for has kind octets ≡ asked_for has kind payload
asked_is has kind octets payload h = asked_if (has == 1) kind octets payload (λ e. h (eqb-true has 1 e))

pub octet_is : (n : ℕ) (octets : List ℕ) → n < 256 → octets ≡ (n % 256) ∷ [] → octets ≡ n ∷ []
octet_is n octets l e = e ∙ ap (λ m. m ∷ []) (omega (arith, l))

pub action_said : (has action : ℕ) (octets : List ℕ) → MayBeAsked has octets → (has ≡ 1 → action < 256) → (has ≡ 0) ⊎ ((has ≡ 1) × (action < 256))
action_said has action octets (inl x) h = inl x
action_said has action octets (inr x) h = inr (x.0, h x.0)

pub size_said : (has : ℕ) (octets : List ℕ) → MayBeAsked has octets → has ≤ 1
size_said has octets (inl x) = omega (arith, x)
size_said has octets (inr x) = let e = x.0 in omega (arith, e)

-- the media type of a poster, where it is asked for
abbrev pub IsMediaAt : PosterAsked → List ℕ → Type 0
IsMediaAt a octets = (a.how.has_media_type ≡ 0) ⊎ ((octets ≡ media_of a) × IsUtf8 octets × IsPartWithin (length a.bytes) a.how.media_type)

pub media_said : (a : PosterAsked) (octets : List ℕ) → MayBeAsked a.how.has_media_type octets → IsMediaAt a octets → MayBeMedia a
media_said a octets (inl x) m = inl x
media_said a octets (inr x) (inl y) = inl y
media_said a octets (inr x) (inr y) = inr (x.0, record { within = y.2; utf8 = subst IsUtf8 y.0 y.1; fits = subst (λ s. length s < 2 ^ 32) y.0 x.1 })

pub media_is : (a : PosterAsked) (octets : List ℕ) → IsMediaAt a octets → a.how.has_media_type ≡ 1 → octets ≡ media_of a
media_is a octets (inl x) e = absurd (omega (arith, x, e))
media_is a octets (inr x) e = x.0

-- ---- the records

joined : (t i : List Item) {u v : Item} {a b n o m k : List Item} → u ≡ v → a ≡ b → n ≡ o → m ≡ k → (u ∷ []) ++ (t ++ (a ++ (n ++ (m ++ (i ++ []))))) ≡ v ∷ (t ++ (b ++ (o ++ (k ++ i))))
joined t i e f g h = λ j. e j ∷ (t ++ (f j ++ (g j ++ (h j ++ append-nil i j))))

-- the series of the records of a poster
pub record ArePoster (a : PosterAsked) (s : PosterProperties) (titles icons : RecordList) : Type 0 where
  pub are_titles : series_items titles ≡ map (title_item a.bytes) a.titles
  pub are_icons : series_items icons ≡ map (icon_item a.bytes) a.icons
  pub each_title : IsSeries titles → All (MayBeTitle a.bytes) a.titles
  pub is_titles : All (MayBeTitle a.bytes) a.titles → IsSeries titles
  pub each_icon : IsSeries icons → All (MayBeIcon a.bytes) a.icons
  pub is_icons : All (MayBeIcon a.bytes) a.icons → IsSeries icons

pub are_poster : (a : PosterAsked) (s : PosterProperties) (bytes : Bor (List ℕ)) (titles : Bor (List NdefTitleWriting)) (icons : Bor (List NdefIconWriting)) → bytes.now ≡ a.bytes → titles.now ≡ a.titles → icons.now ≡ a.icons
    → ArePoster a s (several.Titles bytes titles) (several.Icons bytes icons)
are_poster a s bytes titles icons e f g =
    let n = length-map titles.now (title_item bytes.now) in
    let k = length-map icons.now (icon_item bytes.now) in
    record {
      are_titles = rw (e, f) refl;
      are_icons = rw (e, g) refl;
      each_title = λ h. subst (λ b. All (MayBeTitle b) a.titles) e (subst (All (MayBeTitle bytes.now)) f (λ j d l. h j (omega (arith, n, l)) d));
      is_titles = λ h j l t. (subst (All (MayBeTitle bytes.now)) (sym f) (subst (λ b. All (MayBeTitle b) a.titles) (sym e) h)) j t (omega (arith, n, l));
      each_icon = λ h. subst (λ b. All (MayBeIcon b) a.icons) e (subst (All (MayBeIcon bytes.now)) g (λ j d l. h j (omega (arith, k, l)) d));
      is_icons = λ h j l t. (subst (All (MayBeIcon bytes.now)) (sym g) (subst (λ b. All (MayBeIcon b) a.icons) (sym e) h)) j t (omega (arith, k, l));
    }

abbrev pub poster_series : PosterProperties → (titles icons : RecordList) → List RecordList
poster_series s titles icons = several.One s.uri ∷ titles ∷ s.action ∷ s.size ∷ s.media ∷ icons ∷ []

pub poster_joined : {a : PosterAsked} {s : PosterProperties} {titles icons : RecordList} → ArePoster a s titles icons → (x : AreSaid a s) → all_items (poster_series s titles icons) ≡ poster_items x.said.payload a
poster_joined {a} {s} {titles} {icons} p x =
    ap (λ t. (made_item s.uri ∷ []) ++ (t ++ (series_items s.action ++ (series_items s.size ++ (series_items s.media ++ (series_items icons ++ [])))))) p.are_titles
    ∙ ap (λ i. (made_item s.uri ∷ []) ++ (map (title_item a.bytes) a.titles ++ (series_items s.action ++ (series_items s.size ++ (series_items s.media ++ (i ++ [])))))) p.are_icons
    ∙ joined (map (title_item a.bytes) a.titles) (map (icon_item a.bytes) a.icons) x.uri_is x.action.are x.size.are x.media.are

-- one payload is written for the URI
same_payload : OnePayload IsUtf8 WritesUri → (a : PosterAsked) (p q : List ℕ) → MayBeUri a p → MayBeUri a q → p ≡ q
same_payload one a p q u v = let w = one (uri_of a) u.utf8 in w.1.1 p u.is ∙ sym (w.1.1 q v.is)

-- the message of these records is that of the poster
pub to_poster : {a : PosterAsked} {s : PosterProperties} {titles icons : RecordList} → ArePoster a s titles icons → (x : AreSaid a s) → MayBeMessage [] (poster_series s titles icons) → MayBePoster a
to_poster {a} {s} {titles} {icons} p x m = record {
  said = x.said;
  titles = p.each_title (m.each 1 several.Nothing (omega arith));
  icons = p.each_icon (m.each 5 several.Nothing (omega arith));
  few = subst (λ t. length t ≤ 65535) (poster_joined p x) m.few;
  fits = subst (λ t. length (canonical t) < 2 ^ 32) (poster_joined p x) m.fits;
}

pub from_poster : OnePayload IsUtf8 WritesUri → {a : PosterAsked} {s : PosterProperties} {titles icons : RecordList} → ArePoster a s titles icons → (x : AreSaid a s) → MayBePoster a → MayBeMessage [] (poster_series s titles icons)
from_poster one {a} {s} {titles} {icons} p x m =
    let e : poster_items m.said.payload a ≡ all_items (poster_series s titles icons) = ap (λ t. poster_items t a) (same_payload one a m.said.payload x.said.payload m.said.uri x.said.uri) ∙ sym (poster_joined p x) in
    record {
      each = All-from_recursion IsSeries (poster_series s titles icons) ((λ k l. x.uri), (p.is_titles m.titles, (x.action.may, (x.size.may, (x.media.may, (p.is_icons m.icons, tt))))));
      few = subst (λ t. length t ≤ 65535) e m.few;
      fits = subst (λ t. length (canonical t) < 2 ^ 32) e m.fits;
    }

-- what is given of these records is what is written for the poster
pub gives_poster : {a : PosterAsked} {s : PosterProperties} {titles icons : RecordList} → ArePoster a s titles icons → (x : AreSaid a s) → MayBeMessage [] (poster_series s titles icons) → (before after : List ℕ) (count status : ℕ)
    → Gives (canonical (all_items (poster_series s titles icons))) before after count status → GivesPoster a before after count status
unfolding to_poster
gives_poster {a} {s} {titles} {icons} p x m before after count status g = record {
  may = to_poster p x m;
  gives = record {
    payload = canonical (poster_items x.said.payload a);
    is = refl;
    short = subst (λ t. length (canonical t) < 2 ^ 32) (poster_joined p x) m.fits;
    gives = subst (λ t. Gives (canonical t) before after count status) (poster_joined p x) g;
  };
}

-- ---- step by step

pub series_as : {items others : List Item} {s : RecordList} → AreSeries items s → items ≡ others → AreSeries others s
series_as h e = record { holds = h.holds; may = h.may; are = h.are ∙ e }

pub uri_said : (a : PosterAsked) (uri : List ℕ) (i : Item) → IsPartWithin (length a.bytes) a.how.uri → uri ≡ uri_of a → IsUtf8 uri → IsUriItem uri i
    → (payload : List ℕ) × (MayBeUri a payload × (i ≡ well_known kinds.Uri [] payload))
uri_said a uri i w e u x = (x.payload, (record { within = w; utf8 = subst IsUtf8 e u; is = subst (λ t. WritesUri t x.payload) e x.is; short = x.short }, x.item))
