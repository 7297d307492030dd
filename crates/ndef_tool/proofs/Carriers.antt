-- The records of handovers, and the links of a message.
use Rattle.std.proofs.Common.{◌≡◌, ◌≢◌, ℕ, ◌+◌, ◌-◌, ◌<◌, ◌≤◌, ◌⊎◌, zero, suc, Bool, true, false, get_or, List, [], ◌∷◌, ◌++◌, length, map, refl, sym, ap, ◌∙◌, subst, arith, inl, inr, Option, Some, None, codes, decimal}
use Rattle.std.specs.Prelude.{slice_get, is_some, option_map, if◌then◌else◌}
use Rattle.std.proofs.lemmas.Option.{get_or_from_slice_get, slice_get_within}
use Rattle.std.specs.List.{AllByRecursion}
use Rattle.ndef_format.specs.Messages.{Item, SpellsPieces, all_pieces, run_record}
use Rattle.ndef_format.specs.Records.{Run}
use Rattle.ndef_format.specs.declared.profile.Profile.{Profile}
use Rattle.ndef_format.specs.Handovers.{IsAlternative}
use Rattle.ndef_format.specs.Kinds.{kind_of}
use Rattle.ndef_format.specs.declared.kind.Kind.{Kind}
use Rattle.ndef_format.specs.declared.kind.Kind.TheVariants as kinds
use Rattle.ndef_format.specs.Nested.{IsComplete, IsNest, IsNestedBy, IsPayload, IsVersion, checked, kind_in, table_in, table_of}
use Rattle.ndef_format.specs.declared.table.Table.{Table}
use Rattle.ndef_format.specs.declared.table.Table.TheVariants as tables
use Rattle.ndef_format.specs.Payloads.{IsKindPayload}
use Rattle.ndef_piece.specs.Steps.{inner_by}
use Rattle.ndef_types.specs.Contents.{IsFirstOf, Lack, StandsForMessage}
use Rattle.ndef_types.specs.Links.{AreLinks, IsHandoverRecord, IsIndexOf, StandsForLinks, alternatives, is_alternative, is_handover, records_of}
use Rattle.ndef_types.specs.Values.{StandsForAc}
use Rattle.ndef_types.specs.declared.link.Link.{Link}
use Rattle.ndef_cli.specs.Quoting.{Text}
use Rattle.ndef_tool.specs.Linking.{AreCarrierLines, AreLinkLines, HasNumber, IsCarrier, link_line, link_lines}
use Rattle.ndef_tool.specs.Members.{AreMembers, Counts, FindsFirst, HasMembers}
use Rattle.ndef_tool.specs.Showing.{IsTyped, PrintsValue, handover_word}
use Rattle.ndef_tool.specs.declared.nested.Member.{Member}

all_get : {A : Type 0} (P : A → Type 0) (xs : List A) (k : ℕ) (x : A) → AllByRecursion P xs → k < length xs → P (get_or xs k x)
all_get P [] k x all h = absurd (omega arith)
all_get P (y ∷ ys) zero x all h = all.0
all_get P (y ∷ ys) (suc k) x all h = all_get P ys k x all.1 (omega arith)

pub all_at : {A : Type 0} (P : A → Type 0) (xs : List A) (k : ℕ) (x : A) → AllByRecursion P xs → slice_get xs k ≡ Some x → P x
all_at P xs k x all e = subst P (get_or_from_slice_get xs k x x e) (all_get P xs k x all (slice_get_within xs k x e))

-- ---- the records of a handover

-- the records of a nested message
pub nested_members : (table : Table) (profile : Profile) (payload : List ℕ) (members : List Member) → (runs : List Run) (items : List Item)
    → IsNestedBy table 65535 profile runs items (inner_by (Some table) payload)
    → ((runs : List Run) → AllByRecursion (λ r. r.later ≡ []) runs → SpellsPieces (all_pieces runs) (inner_by (Some table) payload) → AreMembers table (map run_record runs) members)
    → HasMembers table profile payload members
nested_members table profile payload members runs items n f = record {
  message = Some items;
  stands = (runs, n.spelling);
  contents = n.contents;
  are = subst (λ x. AreMembers table x members) n.spelling.message.items (f runs n.single n.spelling.spelled);
}

pub handover_members : (kind : Kind) (profile : Profile) (payload : List ℕ) (members : List Member) → is_handover kind ≡ true → IsKindPayload kind 65535 profile payload
    → ((table : Table) (runs : List Run) → table_in kind ≡ Some table → AllByRecursion (λ r. r.later ≡ []) runs → SpellsPieces (all_pieces runs) (inner_by (Some table) payload)
    → AreMembers table (map run_record runs) members) → HasMembers (table_of kind) profile payload members
handover_members kinds.Request profile [] members e h f = absurd h
handover_members kinds.Request profile (v ∷ s) members e (version, nest) f = nested_members tables.Request profile (v ∷ s) members nest.0 nest.1 nest.2 (λ rs. f tables.Request rs refl)
handover_members kinds.Select profile [] members e h f = absurd h
handover_members kinds.Select profile (v ∷ s) members e (version, inl none) f = record {
  message = None;
  stands = none;
  contents = record { members = tt; complete = tt };
  are = f tables.Select [] refl tt none;
}
handover_members kinds.Select profile (v ∷ s) members e (version, inr nest) f = nested_members tables.Select profile (v ∷ s) members nest.0 nest.1 nest.2 (λ rs. f tables.Select rs refl)
handover_members _ profile payload members e h f = absurd (let t : false ≡ true = e in cc)

of_checked : (b : Bool) (kind : Kind) → (if b then kind else kinds.Other) ≡ kinds.Alternative → kind ≡ kinds.Alternative
of_checked true kind e = e
of_checked false kind e = absurd (cc)

checked_there : (table : Table) → table ≢ tables.SmartPoster → checked table kinds.Alternative ≡ kinds.Alternative
checked_there tables.SmartPoster f = absurd (f refl)
checked_there tables.Request f = refl
checked_there tables.Select f = refl

not_alternative : (kind : Kind) → kind ≢ kinds.Alternative → is_alternative kind ≡ false
not_alternative kinds.Alternative h = absurd (h refl)
not_alternative _ h = refl

-- a carrier in front, and another record
with_carrier : (table : Table) (i : Item) (items : List Item) (m : Member) → m.kind ≡ kind_in table i.tnf i.kind → m.kind ≡ kinds.Alternative → alternatives (i ∷ items) ≡ i ∷ alternatives items
with_carrier table i items m is e =
    let k : kind_of i.tnf i.kind ≡ kinds.Alternative = of_checked _ (kind_of i.tnf i.kind) (sym is ∙ e) in
    ap (λ kind. if is_alternative kind then i ∷ alternatives items else alternatives items) k

with_other : (table : Table) (i : Item) (items : List Item) (m : Member) → table ≢ tables.SmartPoster → m.kind ≡ kind_in table i.tnf i.kind → m.kind ≢ kinds.Alternative
    → alternatives (i ∷ items) ≡ alternatives items
with_other table i items m f is other =
    ap (λ b. if b then i ∷ alternatives items else alternatives items)
    (not_alternative (kind_of i.tnf i.kind) (λ a. other (is ∙ ap (checked table) a ∙ checked_there table f)))

carriers_counted : (table : Table) (items : List Item) (members : List Member) (n : ℕ) → table ≢ tables.SmartPoster → AreMembers table items members → Counts kinds.Alternative members n
    → n ≡ length (alternatives items)
carriers_counted table [] [] n f are c = c
carriers_counted table [] (m ∷ members) n f are c = absurd are
carriers_counted table (i ∷ items) [] n f are c = absurd are
carriers_counted table (i ∷ items) (m ∷ members) n f are (inl (e, k, d, c)) =
    omega (arith, d, carriers_counted table items members k f are.2 c, ap length (with_carrier table i items m are.0 e))
carriers_counted table (i ∷ items) (m ∷ members) n f are (inr (e, c)) =
    carriers_counted table items members n f are.2 c ∙ sym (ap length (with_other table i items m f are.0 e))

-- what is printed of a handover
said_request : (profile : Profile) (v : ℕ) (s : List ℕ) (m : Option (List Item)) (n : ℕ) (text : Text) → IsVersion v → StandsForMessage profile s m → IsComplete tables.Request (records_of m)
    → n ≡ length (alternatives (records_of m)) → text ≡ codes " request version 1." ++ decimal (v - 16) ++ codes " carriers " ++ decimal n → PrintsValue kinds.Request profile (v ∷ s) text
said_request profile v s None n text version h complete e t = absurd complete
said_request profile v s (Some items) n text version h complete e t =
    (record { minor = v - 16; items = items }, (omega (arith, version.0), h), t ∙ ap (λ k. codes " request version 1." ++ decimal (v - 16) ++ codes " carriers " ++ decimal k) e)

pub printed : (kind : Kind) (profile : Profile) (payload : List ℕ) (members : List Member) (n : ℕ) (text : Text) → is_handover kind ≡ true → IsKindPayload kind 65535 profile payload
    → HasMembers (table_of kind) profile payload members → Counts kinds.Alternative members n
    → text ≡ handover_word kind ++ decimal (get_or payload 0 0 - 16) ++ codes " carriers " ++ decimal n → PrintsValue kind profile payload text
printed kinds.Request profile [] members n text e h has c t = absurd h
printed kinds.Request profile (v ∷ s) members n text e h has c t =
    said_request profile v s has.message n text h.0 has.stands has.contents.complete
    (carriers_counted tables.Request (records_of has.message) members n (λ p. let x : tables.Request ≡ tables.SmartPoster = p in cc) has.are c) t
printed kinds.Select profile [] members n text e h has c t = absurd h
printed kinds.Select profile (v ∷ s) members n text e h has c t =
    let count = carriers_counted tables.Select (records_of has.message) members n (λ p. let x : tables.Select ≡ tables.SmartPoster = p in cc) has.are c in
    (record { minor = v - 16; message = has.message }, (omega (arith, h.0.0), has.stands), t ∙ ap (λ k. codes " select version 1." ++ decimal (v - 16) ++ codes " carriers " ++ decimal k) count)
printed _ profile payload members n text e h has c t = absurd (let t : false ≡ true = e in cc)

-- ---- the first handover

pub as_record : (kind : Kind) → is_handover kind ≡ true → (kind ≡ kinds.Request) ⊎ (kind ≡ kinds.Select)
as_record kinds.Request e = inl refl
as_record kinds.Select e = inr refl
as_record _ e = absurd (let t : false ≡ true = e in cc)

pub no_record : (kind : Kind) → is_handover kind ≡ false → (kind ≡ kinds.Request) ⊎ (kind ≡ kinds.Select) → ⊥
no_record kind e (inl k) = let t : true ≡ false = sym (ap is_handover k) ∙ e in cc
no_record kind e (inr k) = let t : true ≡ false = sym (ap is_handover k) ∙ e in cc

pub first_kept : (profile : Profile) (items : List Item) (found : Option (List Member)) (i : Item) → FindsFirst profile items found → (is_some found ≡ true) ⊎ ¬ IsHandoverRecord i
    → FindsFirst profile (items ++ i ∷ []) found
first_kept profile [] found i h (inl some) = absurd (let t : true ≡ false = sym some ∙ ap is_some h in cc)
first_kept profile [] found i h (inr other) = inr (other, h)
first_kept profile (j ∷ items) found i (inl h) w = inl h
first_kept profile (j ∷ items) found i (inr h) w = inr (h.0, first_kept profile items found i h.1 w)

pub first_here : (profile : Profile) (items : List Item) (members : List Member) (i : Item) → FindsFirst profile items None → IsHandoverRecord i
    → HasMembers (table_of (kind_of i.tnf i.kind)) profile i.payload members → FindsFirst profile (items ++ i ∷ []) (Some members)
first_here profile [] members i h is has = inl (is, members, refl, has)
first_here profile (j ∷ items) members i (inl h) is has = absurd (let t : false ≡ true = ap is_some h.2 in cc)
first_here profile (j ∷ items) members i (inr h) is has = inr (h.0, first_here profile items members i h.1 is has)

-- where none is found yet, and where one is
pub none_yet : {A : Type 0} (profile : Profile) (items : List Item) (f : A → List Member) (o : Option A) → is_some o ≡ false → FindsFirst profile items (option_map f o)
    → FindsFirst profile items None
none_yet profile items f None e h = h
none_yet profile items f (Some a) e h = absurd (let t : true ≡ false = e in cc)

pub some_yet : {A : Type 0} (f : A → List Member) (o : Option A) → is_some o ≡ true → is_some (option_map f o) ≡ true
some_yet f None e = absurd (let t : false ≡ true = e in cc)
some_yet f (Some a) e = refl

-- ---- links

none_found : (profile : Profile) (items : List Item) → FindsFirst profile items None → Lack IsHandoverRecord items
none_found profile [] h = tt
none_found profile (i ∷ items) (inl h) = absurd (let t : false ≡ true = ap is_some h.2 in cc)
none_found profile (i ∷ items) (inr h) = (h.0, none_found profile items h.1)

pub none_linked : (profile : Profile) (items : List Item) → FindsFirst profile items None → AreLinkLines profile items []
none_linked profile items h = ([], (None, none_found profile items h, refl), refl)

-- the handover with these records
record HasFirst (profile : Profile) (items : List Item) (members : List Member) : Type 0 where
  item : Item
  first : IsFirstOf IsHandoverRecord items (Some item)
  handover : IsHandoverRecord item
  typed : IsTyped profile item
  has : HasMembers (table_of (kind_of item.tnf item.kind)) profile item.payload members

one_found : (profile : Profile) (items : List Item) (members : List Member) → AllByRecursion (IsTyped profile) items → FindsFirst profile items (Some members) → HasFirst profile items members
one_found profile [] members typed h = absurd (let t : true ≡ false = ap is_some h in cc)
one_found profile (i ∷ items) members typed (inl (is, same, e, has)) =
    let x : members ≡ same = cc in
    record {
      item = i;
      first = (0, record { at = refl; has = is; before = tt });
      handover = is;
      typed = typed.0;
      has = subst (HasMembers (table_of (kind_of i.tnf i.kind)) profile i.payload) (sym x) has;
    }
one_found profile (i ∷ items) members typed (inr (other, h)) =
    let later = one_found profile items members typed.1 h in
    record {
      item = later.item;
      first = (suc later.first.0, record { at = later.first.1.at; has = later.first.1.has; before = (other, later.first.1.before) });
      handover = later.handover;
      typed = later.typed;
      has = later.has;
    }

nest_of : (kind : Kind) (profile : Profile) (s : List ℕ) → (kind ≡ kinds.Request) ⊎ (kind ≡ kinds.Select) → IsKindPayload kind 65535 profile s
    → IsNest (table_of kind) 65535 profile s
nest_of kind profile s (inl e) h = subst (λ (k : Kind). IsNest (table_of k) 65535 profile s) (sym e) (subst (λ (k : Kind). IsKindPayload k 65535 profile s) e h)
nest_of kind profile s (inr e) h = subst (λ (k : Kind). IsNest (table_of k) 65535 profile s) (sym e) (subst (λ (k : Kind). IsKindPayload k 65535 profile s) e h)

no_poster : (kind : Kind) → (kind ≡ kinds.Request) ⊎ (kind ≡ kinds.Select) → table_of kind ≢ tables.SmartPoster
no_poster kind (inl e) p = let x : tables.Request ≡ tables.SmartPoster = sym (ap table_of e) ∙ p in cc
no_poster kind (inr e) p = let x : tables.Select ≡ tables.SmartPoster = sym (ap table_of e) ∙ p in cc

carriers_linked : (table : Table) (outer items : List Item) (members : List Member) (number : ℕ) (text : Text) → table ≢ tables.SmartPoster → AreMembers table items members
    → AreCarrierLines outer number members text → (links : List Link) × AreLinks outer (alternatives items) links × (text ≡ link_lines number links)
carriers_linked table outer [] [] number text f are e = ([], tt, e)
carriers_linked table outer [] (m ∷ members) number text f are h = absurd are
carriers_linked table outer (i ∷ items) [] number text f are h = absurd are
carriers_linked table outer (i ∷ items) (m ∷ members) number text f are (inl (a, link, rest, s, x, h, e)) =
    let r = carriers_linked table outer items members (number + 1) rest f are.2 h in
    (link ∷ r.0, rw (with_carrier table i items m are.0 a) (subst (λ p. StandsForAc p link.ac) are.1 s, x, r.1), e ∙ ap (λ t. link_line number link ++ t) r.2)
carriers_linked table outer (i ∷ items) (m ∷ members) number text f are (inr (a, h)) =
    let r = carriers_linked table outer items members number text f are.2 h in
    (r.0, rw (with_other table i items m f are.0 a) r.1, r.2)

links_stand : (table : Table) (profile : Profile) (outer : List Item) (payload : List ℕ) (message : Option (List Item)) (links : List Link) → table ≢ tables.SmartPoster
    → IsNest table 65535 profile payload → StandsForMessage profile (inner_by (Some table) payload) message → AreLinks outer (alternatives (records_of message)) links
    → StandsForLinks profile outer payload links
links_stand tables.SmartPoster profile outer payload message links f n m h = absurd (f refl)
links_stand tables.Request profile outer [] message links f n m h = absurd n
links_stand tables.Request profile outer (v ∷ s) message links f n m h = (message, m, h)
links_stand tables.Select profile outer [] message links f n m h = absurd n
links_stand tables.Select profile outer (v ∷ s) message links f n m h = (message, m, h)

pub lines_linked : (profile : Profile) (items : List Item) (members : List Member) (text : Text) → AllByRecursion (IsTyped profile) items → FindsFirst profile items (Some members)
    → AreCarrierLines items 1 members text → AreLinkLines profile items text
lines_linked profile items members text typed found lines =
    let h = one_found profile items members typed found in
    let kind = kind_of h.item.tnf h.item.kind in
    let other = no_poster kind h.handover in
    let nest = nest_of kind profile h.item.payload h.handover h.typed in
    let r = carriers_linked (table_of kind) items (records_of h.has.message) members 1 text other h.has.are lines in
    (r.0, (Some h.item, h.first, (nest, links_stand (table_of kind) profile items h.item.payload h.has.message r.0 other nest h.has.stands r.1)), r.2)

carriers_have : (table : Table) (profile : Profile) (items : List Item) (members : List Member) → AreMembers table items members
    → AllByRecursion (λ i. IsPayload (kind_in table i.tnf i.kind) profile i.payload) items → AllByRecursion IsCarrier members
carriers_have table profile [] [] are h = tt
carriers_have table profile [] (m ∷ members) are h = absurd are
carriers_have table profile (i ∷ items) [] are h = absurd are
carriers_have table profile (i ∷ items) (m ∷ members) are h =
    (λ a. subst IsAlternative (sym are.1) (subst (λ k. IsPayload k profile i.payload) (sym are.0 ∙ a) h.0), carriers_have table profile items members are.2 h.1)

pub are_carriers : (profile : Profile) (items : List Item) (members : List Member) → AllByRecursion (IsTyped profile) items → FindsFirst profile items (Some members)
    → AllByRecursion IsCarrier members
are_carriers profile items members typed found =
    let h = one_found profile items members typed found in
    carriers_have (table_of (kind_of h.item.tnf h.item.kind)) profile (records_of h.has.message) members h.has.are h.has.contents.members

-- ---- each link has a number

pub numbered : (items : List Item) (few : length items ≤ 65535) (id : List ℕ) (index : Option ℕ) → IsIndexOf items id index → HasNumber index
numbered items few id None h = tt
numbered items few id (Some k) h = omega (arith, slice_get_within items k h.1 h.2.at)
