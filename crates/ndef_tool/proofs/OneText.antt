-- The output for messages is one text.
use Rattle.std.proofs.Common.{◌≡◌, ℕ, ◌+◌, ◌<◌, zero, suc, get_or, List, [], ◌∷◌, ◌++◌, length, take, drop, length-append, append-nil, refl, sym, ap, ap₂, ◌∙◌, subst, arith, inl, inr, Option, Some, None, Ok}
use Rattle.std.specs.Prelude.{◌==◌, codes, if◌then◌else◌, option_map, slice_get}
use Rattle.std.specs.List.{AllByRecursion}
use Rattle.std.proofs.lemmas.Option.{get_or_from_slice_get, slice_get_within}
use Rattle.ndef_format.specs.declared.profile.Profile.{Profile}
use Rattle.ndef_format.specs.Handovers.{IsCarrier}
use Rattle.ndef_format.specs.Texts.{IsText}
use Rattle.ndef_format.specs.declared.kind.Kind.{Kind}
use Rattle.ndef_format.specs.declared.kind.Kind.TheVariants as kinds
use Rattle.ndef_format.specs.Nested.{IsNest}
use Rattle.ndef_format.specs.Payloads.{IsKindPayload}
use Rattle.ndef_format.specs.declared.table.Table.TheVariants as tables
use Rattle.ndef_types.specs.Contents.{IsFirstOf, IsFirstAt, IsOfKind, StandsForMessage}
use Rattle.ndef_types.specs.Decoding.{OneValue}
use Rattle.ndef_types.specs.Handovers.{StandsForRequest, StandsForSelect}
use Rattle.ndef_types.specs.Posters.{IsUriOf, Says, StandsForPoster, action_in, size_in}
use Rattle.ndef_format.specs.Messages.{BeginsOnce, Item, SpellsPieces, all_pieces}
use Rattle.ndef_format.specs.Laws.{OneMeaning}
use Rattle.ndef_format.specs.Records.{Piece}
use Rattle.ndef_format.specs.Kinds.{kind_of}
use Rattle.ndef_message.specs.declared.message_reading.Read.{Read}
use Rattle.ndef_types.specs.Links.{AreLinks, FindsLinks, HasId, IsHandoverRecord, IsIndexOf, LinksOf, StandsForLinks, alternatives, records_of}
use Rattle.ndef_types.specs.Values.{AcValue, StandForAuxiliary, StandForNames, StandsForAc, StandsForCarrier, StandsForText, StandsForUri, power_code}
use Rattle.ndef_types.specs.declared.link.Link.{Link}
use Rattle.ndef_types.specs.declared.power.Power.{Power}
use Rattle.ndef_types.specs.declared.power.Power.TheVariants.{Inactive, Active, Activating, Unknown}
use Rattle.ndef_tool.specs.Output.{AreBlocks, IsBlock, IsBlockBy, OneOutput, total_bytes, outcome_line}
use Rattle.ndef_cli.specs.Quoting.{Text}
use Rattle.ndef_tool.specs.Showing.{AreRecordLines, IsRecordLine, IsTyped, PrintsValue, TellsPoster, record_front, reported_carrier, reported_handover, reported_text, reported_uri}
use Rattle.ndef_tool.specs.declared.choice.Action.{Action}
use Rattle.ndef_tool.specs.declared.choice.Action.TheVariants.{Show, Check, Encode}
use Rattle.ndef_tool.specs.declared.choice.Choice.{Choice}
use Rattle.ndef_tool.proofs.Carriers.{all_at}

-- ---- the first record

all_taken : {A : Type 0} (P : A → Type 0) (xs : List A) (n k : ℕ) (x : A) → AllByRecursion P (take n xs) → k < n → k < length xs → P (get_or xs k x)
all_taken P [] n k x all h l = absurd (omega arith)
all_taken P (y ∷ ys) zero k x all h l = absurd (omega arith)
all_taken P (y ∷ ys) (suc n) zero x all h l = all.0
all_taken P (y ∷ ys) (suc n) (suc k) x all h l = all_taken P ys n k x all.1 (omega arith) (omega arith)

not_before : (P : Item → Type 0) (items : List Item) (k n : ℕ) (i j : Item) → IsFirstAt P items k i → IsFirstAt P items n j → k < n → ⊥
not_before P items k n i j f g h =
    let lacks = all_taken (λ (m : Item). P m → ⊥) items n k i g.before h (slice_get_within items k i f.at) in
    (subst (λ (m : Item). P m → ⊥) (get_or_from_slice_get items k i i f.at) lacks) f.has

one_place : (P : Item → Type 0) (items : List Item) (k n : ℕ) (i j : Item) → IsFirstAt P items k i → IsFirstAt P items n j → k ≡ n
one_place P items k n i j f g =
    let a = not_before P items k n i j f g in
    let b = not_before P items n k j i g f in
    omega (arith, a, b)

one_first : (P : Item → Type 0) (items : List Item) (a b : Option Item) → IsFirstOf P items a → IsFirstOf P items b → a ≡ b
one_first P items None None f g = refl
one_first P items None (Some j) f (n, g) = absurd (all_at (λ (m : Item). P m → ⊥) items n j f g.at g.has)
one_first P items (Some i) None (k, f) g = absurd (all_at (λ (m : Item). P m → ⊥) items k i g f.at f.has)
one_first P items (Some i) (Some j) (k, f) (n, g) = sym f.at ∙ ap (slice_get items) (one_place P items k n i j f g) ∙ g.at

-- ---- values

one_said : {V : Type 0} (kind : Kind) (value : Item → V) (items : List Item) (a b : Option V) → Says kind value items a → Says kind value items b → a ≡ b
one_said kind value items a b (i, f, d) (j, g, e) = d ∙ ap (option_map value) (one_first (IsOfKind tables.SmartPoster kind) items i j f g) ∙ sym e

uri_of_payload : (payload : List ℕ) (u v : List ℕ) → StandsForUri payload u → StandsForUri payload v → u ≡ v
uri_of_payload [] u v s t = absurd s
uri_of_payload (c ∷ r) u v s t = s ∙ sym t

one_uri : (items : List Item) (u v : List ℕ) → IsUriOf items u → IsUriOf items v → u ≡ v
one_uri items u v (i, f, s) (j, g, t) =
    let first = one_first (IsOfKind tables.SmartPoster kinds.Uri) items (Some i) (Some j) f g in
    let same : i ≡ j = cc in
    uri_of_payload j.payload u v (subst (λ (m : Item). StandsForUri m.payload u) same s) t

one_poster : (items : List Item) (a b : Text) → TellsPoster items a → TellsPoster items b → a ≡ b
one_poster items a b (u, x, y, z, hu, hx, hy, hz, e) (u', x', y', z', ku, kx, ky, kz, d) =
    let su = one_uri items u u' hu ku in
    let sx = one_said kinds.Action action_in items x x' hx kx in
    let sy = one_said kinds.Size size_in items y y' hy ky in
    let sz = one_said kinds.MediaType (λ (i : Item). i.payload) items z z' hz kz in
    rw (e, d, su, sx, sy, sz) refl

-- the values of payloads determine what is printed of them
pub record ValuesAreOne : Type 0 where
  pub texts : OneValue IsText StandsForText
  pub posters : (profile : Profile) → OneValue (IsNest tables.SmartPoster 65535 profile) (StandsForPoster profile)
  pub requests : (profile : Profile) → OneValue (IsNest tables.Request 65535 profile) (StandsForRequest profile)
  pub selects : (profile : Profile) → OneValue (IsNest tables.Select 65535 profile) (StandsForSelect profile)
  pub carriers : OneValue IsCarrier StandsForCarrier

one_reported : ValuesAreOne → (kind : Kind) (profile : Profile) (s : List ℕ) (a b : Text) → IsKindPayload kind 65535 profile s → PrintsValue kind profile s a → PrintsValue kind profile s b → a ≡ b
one_reported one kinds.Text profile s a b h (v, p, e) (w, q, d) = e ∙ ap reported_text (one.texts s v w h p q) ∙ sym d
one_reported one kinds.Uri profile s a b h (v, p, e) (w, q, d) = e ∙ ap reported_uri (uri_of_payload s v w p q) ∙ sym d
one_reported one kinds.SmartPoster profile s a b h (v, p, e) (w, q, d) =
    one_poster w a b (subst (λ items. TellsPoster items a) (one.posters profile s v w h p q) e) d
one_reported one kinds.Request profile s a b h (v, p, e) (w, q, d) = e ∙ ap (λ x. reported_handover kinds.Request x.minor x.items) (one.requests profile s v w h p q) ∙ sym d
one_reported one kinds.Select profile s a b h (v, p, e) (w, q, d) = e ∙ ap (λ x. reported_handover kinds.Select x.minor (records_of x.message)) (one.selects profile s v w h p q) ∙ sym d
one_reported one kinds.Carrier profile s a b h (v, p, e) (w, q, d) = e ∙ ap reported_carrier (one.carriers s v w h p q) ∙ sym d
one_reported one _ profile s a b h e d = e ∙ sym d

-- ---- records

one_line : ValuesAreOne → (profile : Profile) (number : ℕ) (i : Item) (a b : Text) → IsTyped profile i → IsRecordLine profile number i a → IsRecordLine profile number i b → a ≡ b
one_line one profile number i a b h (s, p, e) (t, q, d) =
    let reported = one_reported one (kind_of i.tnf i.kind) profile i.payload s t h p q in
    e ∙ ap (λ text. record_front number i ++ text ++ codes "\n") reported ∙ sym d

one_records : ValuesAreOne → (profile : Profile) (number : ℕ) (items : List Item) (a b : Text) → AllByRecursion (IsTyped profile) items
    → AreRecordLines profile number items a → AreRecordLines profile number items b → a ≡ b
one_records one profile number [] a b h p q = p ∙ sym q
one_records one profile number (i ∷ items) a b h (l, r, p, q, e) (m, s, u, v, d) =
    let first = one_line one profile number i l m h.0 p u in
    let rest = one_records one profile (number + 1) items r s h.1 q v in
    e ∙ ap₂ (λ (x y : Text). x ++ y) first rest ∙ sym d

-- ---- links

abbrev power_of : ℕ → Power
power_of n = if n == 0 then Inactive else (if n == 1 then Active else (if n == 2 then Activating else Unknown))

power_back : (p : Power) → power_of (power_code p) ≡ p
power_back Inactive = refl
power_back Active = refl
power_back Activating = refl
power_back Unknown = refl

names_one : (n : ℕ) (s : List ℕ) (a b : List (List ℕ)) (x y : List ℕ) → StandForNames n s a x → StandForNames n s b y → (a ≡ b) × (x ≡ y)
names_one zero s a b x y p q = (p.0 ∙ sym q.0, sym p.1 ∙ q.1)
names_one (suc n) [] a b x y p q = absurd p
names_one (suc n) (k ∷ s) [] b x y p q = absurd p
names_one (suc n) (k ∷ s) (v ∷ a) [] x y p q = absurd q
names_one (suc n) (k ∷ s) (v ∷ a) (w ∷ b) x y p q =
    let rest = names_one n (drop k s) a b x y p.1 q.1 in
    (ap₂ (λ h t. h ∷ t) (sym p.0 ∙ q.0) rest.0, rest.1)

auxiliary_one : (s : List ℕ) (a b : List (List ℕ)) (x y : List ℕ) → StandForAuxiliary s a x → StandForAuxiliary s b y → (a ≡ b) × (x ≡ y)
auxiliary_one [] a b x y p q = absurd p
auxiliary_one (n ∷ s) a b x y p q = names_one n s a b x y p q

abbrev carrier_of : Power → List ℕ → List (List ℕ) → List ℕ → AcValue
carrier_of power reference auxiliary rest = record { power = power; reference = reference; auxiliary = auxiliary; rest = rest }

carrier_one : (s : List ℕ) (v w : AcValue) → StandsForAc s v → StandsForAc s w → v ≡ w
carrier_one [] v w p q = absurd p
carrier_one (octet ∷ []) v w p q = absurd p
carrier_one (octet ∷ n ∷ s) v w p q =
    let power : v.power ≡ w.power = sym (power_back v.power) ∙ ap power_of (sym p.0 ∙ q.0) ∙ power_back w.power in
    let reference : v.reference ≡ w.reference = sym p.1 ∙ q.1 in
    let rest = auxiliary_one (drop n s) v.auxiliary w.auxiliary v.rest w.rest p.2 q.2 in
    ap₂ (λ a b. carrier_of a b v.auxiliary v.rest) power reference ∙ ap₂ (λ a b. carrier_of w.power w.reference a b) rest.0 rest.1

none_found : (items : List Item) (id : List ℕ) (k : ℕ) → IsIndexOf items id None → IsIndexOf items id (Some k) → ⊥
none_found items id k (inl e) (p, i, f) = p e
none_found items id k (inr lacks) (p, i, f) = all_at (λ (m : Item). HasId id m → ⊥) items k i lacks f.at f.has

index_one : (items : List Item) (id : List ℕ) (a b : Option ℕ) → IsIndexOf items id a → IsIndexOf items id b → a ≡ b
index_one items id None None p q = refl
index_one items id None (Some k) p q = absurd (none_found items id k p q)
index_one items id (Some k) None p q = absurd (none_found items id k q p)
index_one items id (Some k) (Some n) (p, i, f) (q, j, g) = ap (λ x. Some x) (one_place (HasId id) items k n i j f g)

abbrev link_of : AcValue → Option ℕ → Link
link_of carrier index = record { ac = carrier; index = index }

links_one : (outer items : List Item) (a b : List Link) → AreLinks outer items a → AreLinks outer items b → a ≡ b
links_one outer [] [] [] p q = refl
links_one outer [] [] (m ∷ b) p q = absurd q
links_one outer [] (l ∷ a) b p q = absurd p
links_one outer (i ∷ items) [] b p q = absurd p
links_one outer (i ∷ items) (l ∷ a) [] p q = absurd q
links_one outer (i ∷ items) (l ∷ a) (m ∷ b) p q =
    let carrier : l.ac ≡ m.ac = carrier_one i.payload l.ac m.ac p.0 q.0 in
    let index : l.index ≡ m.index = index_one outer m.ac.reference l.index m.index (subst (λ (c : AcValue). IsIndexOf outer c.reference l.index) carrier p.1) q.1 in
    ap₂ (λ h t. h ∷ t) (ap₂ (λ c x. link_of c x) carrier index) (links_one outer items a b p.2 q.2)

-- ---- messages

some_bytes : (ps : List Piece) (s : List ℕ) → BeginsOnce ps → SpellsPieces ps s → s ≡ [] → ⊥
some_bytes [] s b h e = absurd b
some_bytes (p ∷ ps) s b (short, front, rest, join, spells, more) e =
    omega (arith, ap length e, ap length join, length-append front rest, ap length spells.spelled)

message_one : OneMeaning → (profile : Profile) (s : List ℕ) (a b : Option (List Item)) → StandsForMessage profile s a → StandsForMessage profile s b → a ≡ b
message_one once profile s None None p q = refl
message_one once profile s None (Some items) p (runs, q) = absurd (some_bytes (all_pieces runs) s q.message.begins q.spelled p)
message_one once profile s (Some items) None (runs, p) q = absurd (some_bytes (all_pieces runs) s p.message.begins p.spelled q)
message_one once profile s (Some m) (Some n) p q = ap (λ x. Some x) (once profile profile m n s s [] p q (sym (append-nil s))).0

payload_links_one : OneMeaning → (profile : Profile) (outer : List Item) (s : List ℕ) (a b : List Link) → StandsForLinks profile outer s a → StandsForLinks profile outer s b → a ≡ b
payload_links_one once profile outer [] a b p q = absurd p
payload_links_one once profile outer (v ∷ s) a b (m, h, p) (n, k, q) =
    let e = message_one once profile s m n h k in
    links_one outer (alternatives (records_of n)) a b (subst (λ x. AreLinks outer (alternatives (records_of x)) a) e p) q

found_one : OneMeaning → (profile : Profile) (outer : List Item) (a b : List Link) → FindsLinks profile outer (Ok a) → FindsLinks profile outer (Ok b) → a ≡ b
found_one once profile outer a b (i, f, p) (j, g, q) =
    of_handover once profile outer j a b (subst (λ o. LinksOf profile outer o (Ok a)) (one_first IsHandoverRecord outer i j f g) p) q
  where
    of_handover : OneMeaning → (profile : Profile) (outer : List Item) (o : Option Item) (a b : List Link) → LinksOf profile outer o (Ok a) → LinksOf profile outer o (Ok b) → a ≡ b
    of_handover once profile outer None a b p q = cc
    of_handover once profile outer (Some i) a b p q = payload_links_one once profile outer i.payload a b p.1 q.1

-- ---- all of it

one_block : OneMeaning → ValuesAreOne → (choice : Choice) (number at : ℕ) (read : Read) (a b : Text) → AllByRecursion (IsTyped choice.limits.profile) read.message
    → IsBlock choice number at read a → IsBlock choice number at read b → a ≡ b
one_block once one choice number at read a b typed p q = go choice.action p q
  where
    go : (action : Action) → IsBlockBy action choice.limits.profile choice.hex number at read a → IsBlockBy action choice.limits.profile choice.hex number at read b → a ≡ b
    go Show (r, l, hr, (ls, hl, el), e) (s, m, hs, (ms, hm, em), d) =
        let records = one_records one choice.limits.profile 1 read.message r s typed hr hs in
        let links = found_one once choice.limits.profile read.message ls ms hl hm in
        rw (e, d, el, em, records, links) refl
    go Check p q = p ∙ sym q
    go (Encode form size) p q = p ∙ sym q

one_run : OneMeaning → ValuesAreOne → (choice : Choice) (number at : ℕ) (reads : List Read) (a b : Text) → AllByRecursion (λ r. AllByRecursion (IsTyped choice.limits.profile) r.message) reads
    → AreBlocks choice number at reads a → AreBlocks choice number at reads b → a ≡ b
one_run once one choice number at [] a b typed p q = p ∙ sym q
one_run once one choice number at (r ∷ reads) a b typed (l, s, hl, hs, e) (m, t, hm, ht, d) =
    let block = one_block once one choice number at r l m typed.0 hl hm in
    let rest = one_run once one choice (number + 1) (at + r.taken) reads s t typed.1 hs ht in
    e ∙ ap₂ (λ (x y : Text). x ++ y) block rest ∙ sym d

pub one_output : OneMeaning → ValuesAreOne → OneOutput
one_output once one choice reads outcome a b typed (l, hl, e) (m, hm, d) =
    e ∙ ap (λ t. t ++ outcome_line choice.action (total_bytes reads) outcome) (one_run once one choice 1 0 reads l m typed hl hm) ∙ sym d
