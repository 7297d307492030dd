-- The links that are given are those of the message.
use Rattle.std.proofs.Common.{◌≡◌, ℕ, zero, suc, ◌∷◌, [], drop, refl, sym, ◌∙◌, ap, subst, arith, true≢false, List, length, map, append-nil, Some, None, inl, inr, Option}
use Rattle.std.specs.Prelude.{slice_get, Ok}
use Rattle.std.proofs.lemmas.List.{take_all}
use Rattle.ndef_format.specs.Messages.{BeginsOnce, SpellsBy, Item, SpellsPieces, all_pieces, run_record}
use Rattle.ndef_format.specs.Records.{Run}
use Rattle.ndef_format.specs.Limits.{LimitValues}
use Rattle.ndef_format.specs.Laws.{IsNoStricter, OneMeaning}
use Rattle.ndef_format.specs.declared.profile.Profile.{Profile}
use Rattle.ndef_format.specs.declared.profile.Profile.TheVariants.{Strict, Standard}
use Rattle.ndef_format.specs.Handovers.{IsAlternative}
use Rattle.ndef_format.specs.Kinds.{kind_of}
use Rattle.ndef_format.specs.declared.kind.Kind.TheVariants as kinds
use Rattle.ndef_format.specs.Payloads.{Sets}
use Rattle.ndef_format.specs.Reasons.{Conditions}
use Rattle.ndef_message.specs.Views.{Viewed, Views}
use Rattle.ndef_format.specs.Nested.{IsNest, table_of}
use Rattle.ndef_nest.specs.WiderLaws.{typed_stays}
use Rattle.ndef_types.specs.Contents.{IsFirstAt, Lack, StandsForMessage}
use Rattle.ndef_types.specs.ContentsLaws.{has_at}
use Rattle.ndef_types.specs.Decoding.{OneValue}
use Rattle.ndef_types.specs.Links.{AreLinks, HasId, IsHandoverRecord as IsHandoverRecord, IsIndexOf, StandsForLinks, alternatives, records_of}
use Rattle.ndef_types.specs.Values.{StandsForAc}
use Rattle.ndef_types.specs.declared.link.Link.{Link}
use Rattle.ndef_c.specs.Handovers.{HasMessage, IsHandoverPayload}
use Rattle.ndef_c.specs.Links.{BeginsWithRuns, FindsRecord, LinksAreExact, TellsPlace}
use Rattle.ndef_c.specs.Nested.{MayBeInPieces, TellsNumber}
use Rattle.ndef_c.specs.Walks.{AreWalked, BeginsWithRun, ends_message, is_last_run}
use Rattle.ndef_c.specs.declared.message.Place.{Place}
use Rattle.ndef_c.proofs.Ahead.{none_left}
use Rattle.ndef_c.proofs.Followed.{one_record}
use Rattle.ndef_c.proofs.Walked.{checks_walked}
use Rattle.ndef_c.proofs.Walking.{some_last}

-- ---- one message

tail_once : (bytes : List ℕ) (x y : ℕ) (rs ss : List Run) (e f : ℕ) → drop x bytes ≡ drop y bytes → is_last_run rs ≡ is_last_run ss → AreWalked bytes x rs e → AreWalked bytes y ss f → rs ≡ ss
tail_once bytes x y [] [] e f d l a b = refl
tail_once bytes x y [] (s ∷ ss) e f d l a b = absurd (true≢false l)
tail_once bytes x y (r ∷ rs) [] e f d l a b = absurd (true≢false (sym l))
tail_once bytes x y (r ∷ rs) (s ∷ ss) e f d l a b =
    let o = one_record r s (drop a.0 bytes) (drop b.0 bytes) (drop x bytes) a.1 (subst (BeginsWithRun s (drop b.0 bytes)) (sym d) b.1) in
    let ends : is_last_run rs ≡ is_last_run ss = sym a.2 ∙ ap (λ r. ends_message r.initial r.later) o.0 ∙ b.2 in
    ap (λ r. r ∷ rs) o.0 ∙ ap (λ rs. s ∷ rs) (tail_once bytes a.0 b.0 rs ss e f o.1 ends a.3 b.3)

runs_once : (bytes : List ℕ) (rs ss : List Run) → BeginsWithRuns rs bytes → BeginsWithRuns ss bytes → rs ≡ ss
runs_once bytes rs ss a b = tail_once bytes 0 0 rs ss a.end b.end refl (some_last rs a.some ∙ sym (some_last ss b.some)) a.walked b.walked

not_flat : (profile : Profile) (runs : List Run) (items : List Item) (bytes : List ℕ) → bytes ≡ [] → SpellsBy profile runs items bytes → ⊥
not_flat profile runs items bytes e h =
    let none : runs ≡ [] = none_left runs (subst (SpellsPieces (all_pieces runs)) e h.spelled) in
    subst (λ rs. BeginsOnce (all_pieces rs)) none h.message.begins

items_once : OneMeaning → (p q : Profile) (items : List Item) (bytes : List ℕ) (message : Option (List Item)) → MayBeInPieces p items bytes → StandsForMessage q bytes message → items ≡ records_of message
items_once one p q items bytes None (inl h) m = h.0
items_once one p q items bytes (Some other) (inl h) m = absurd (not_flat q m.0 other bytes h.1 m.1)
items_once one p q items bytes None (inr h) m = absurd (not_flat p h.runs items bytes m h.spelling)
items_once one p q items bytes (Some other) (inr h) m = (one p q items other bytes bytes [] (h.runs, h.spelling) m (sym (append-nil bytes))).0

-- ---- the message of a check

begins_with_runs : (set : Sets) (holds : Conditions) (limits : LimitValues) (bytes : List ℕ) (v : Viewed) → Views set holds limits bytes (Ok v) → BeginsWithRuns v.runs bytes
begins_with_runs set holds limits bytes v s = record {
  some = λ e. subst (λ rs. BeginsOnce (all_pieces rs)) (s.1.1 ∙ e) s.1.0.spelling.message.begins;
  end = v.taken;
  walked = subst (λ b. AreWalked b 0 v.runs v.taken) (take_all (length bytes) bytes (omega arith)) (checks_walked set holds limits bytes v (length bytes) s s.0);
}

-- ---- one link

lacks : (P : Item → Type 0) (items : List Item) (k : ℕ) (i : Item) → Lack P items → IsFirstAt P items k i → ⊥
lacks P items k i l f = has_at (λ j. P j → ⊥) items k i l f.at f.has

same_place : (P : Item → Type 0) (items : List Item) (j k : ℕ) (x y : Item) → IsFirstAt P items j x → IsFirstAt P items k y → j ≡ k
same_place P [] j k x y f g = let e = f.at in absurd (cc)
same_place P (i ∷ items) zero zero x y f g = refl
same_place P (i ∷ items) zero (suc k) x y f g = let e : i ≡ x = let a = f.at in cc in absurd (g.before.0 (subst P (sym e) f.has))
same_place P (i ∷ items) (suc j) zero x y f g = let e : i ≡ y = let a = g.at in cc in absurd (f.before.0 (subst P (sym e) g.has))
same_place P (i ∷ items) (suc j) (suc k) x y f g =
    ap suc (same_place P items j k x y (record { at = f.at; has = f.has; before = f.before.1 }) (record { at = g.at; has = g.has; before = g.before.1 }))

pub index_once : (items : List Item) (id : List ℕ) (a b : Option ℕ) → IsIndexOf items id a → IsIndexOf items id b → a ≡ b
index_once items id None None x y = refl
index_once items id None (Some k) (inl e) y = absurd (y.0 e)
index_once items id None (Some k) (inr l) y = absurd (lacks (HasId id) items k y.1 l y.2)
index_once items id (Some j) None x (inl e) = absurd (x.0 e)
index_once items id (Some j) None x (inr l) = absurd (lacks (HasId id) items j x.1 l x.2)
index_once items id (Some j) (Some k) x y = ap (λ n. Some n) (same_place (HasId id) items j k x.1 y.1 x.2 y.2)

index_reported : (bytes : List ℕ) (runs : List Run) (id : List ℕ) (index : Option ℕ) (p : Option Place) (has number at : ℕ) → IsIndexOf (map run_record runs) id index → FindsRecord bytes runs id p → TellsPlace p has number at
    → TellsNumber index has number
index_reported bytes runs id index None has number at x f t = subst (λ k. TellsNumber k has number) (index_once (map run_record runs) id None index f x) (t.0, t.1)
index_reported bytes runs id index (Some p) has number at x f t = subst (λ k. TellsNumber k has number) (index_once (map run_record runs) id (Some p.index) index f.0 x) (t.0, t.1)

-- ---- the links in order

link_at : (outer items : List Item) (links : List Link) (index : ℕ) (i : Item) → AreLinks outer items links → slice_get items index ≡ Some i
    → (link : Link) × (slice_get links index ≡ Some link) × StandsForAc i.payload link.ac × IsIndexOf outer link.ac.reference link.index
link_at outer [] links index i h e = absurd (cc)
link_at outer (j ∷ items) [] index i h e = absurd h
link_at outer (j ∷ items) (l ∷ links) zero i h e = let same : j ≡ i = cc in (l, refl, subst (λ x. StandsForAc x.payload l.ac) same h.0, h.1)
link_at outer (j ∷ items) (l ∷ links) (suc index) i h e = link_at outer items links index i h.2 e

links_count : (outer items : List Item) (links : List Link) → AreLinks outer items links → length items ≡ length links
links_count outer [] [] h = refl
links_count outer [] (l ∷ links) h = absurd h
links_count outer (j ∷ items) [] h = absurd h
links_count outer (j ∷ items) (l ∷ links) h = let n = links_count outer items links h.2 in omega (arith, n)

-- ---- handovers, as each reader takes them

no_stricter : (profile : Profile) → IsNoStricter profile Standard
no_stricter Strict = tt
no_stricter Standard = refl

is_handover : (profile : Profile) (i : Item) → IsHandoverRecord i → IsNest (table_of (kind_of i.tnf i.kind)) 65535 profile i.payload → IsHandoverPayload i.payload
is_handover profile i (inl k) h = inl (typed_stays kinds.Request 65535 65535 profile Standard i.payload (omega arith) (no_stricter profile) (subst (λ k. IsNest (table_of k) 65535 profile i.payload) k h))
is_handover profile i (inr k) h = inr (typed_stays kinds.Select 65535 65535 profile Standard i.payload (omega arith) (no_stricter profile) (subst (λ k. IsNest (table_of k) 65535 profile i.payload) k h))

-- ---- the links

same_links : OneMeaning → (profile : Profile) (outer items : List Item) (payload : List ℕ) (links : List Link) → StandsForLinks profile outer payload links → HasMessage Standard items payload → AreLinks outer (alternatives items) links
same_links one profile outer items [] links h m = absurd h
same_links one profile outer items (version ∷ bytes) links h m = subst (λ is. AreLinks outer (alternatives is) links) (sym (items_once one Standard profile items bytes h.0 m h.1)) h.2

pub links_reported : OneMeaning → OneValue IsAlternative StandsForAc → (set : Sets) (holds : Conditions) → LinksAreExact set holds
links_reported one value set holds limits bytes v handover links s k short l =
    let b = begins_with_runs set holds limits bytes v s in
    record {
      may = record { handover = is_handover limits.profile handover k l.0; short = short; message = (v.runs, b) };
      each = λ index out x.
          let same = runs_once bytes x.runs v.runs x.message b in
          let a = link_at (map run_record v.runs) (alternatives x.items) links index x.carrier (same_links one limits.profile (map run_record v.runs) x.items handover.payload links l.1 x.records) x.is_carrier in
          let w = value x.carrier.payload x.alternative a.0.ac x.in_set x.stands a.2 in (
            a.0,
            a.1,
            record {
              carrier = x.carrier.payload;
              lies = x.lies;
              stands = a.2;
              index = index_reported bytes v.runs a.0.ac.reference a.0.index x.refers.0 out.has_record out.record_index out.record_at a.3
                  (subst (λ id. FindsRecord bytes v.runs id x.refers.0) (ap (λ z. z.reference) w) (subst (λ rs. FindsRecord bytes rs x.alternative.reference x.refers.0) same x.refers.1)) x.refers.2;
            },
          );
      end = λ index x.
          let n = links_count (map run_record v.runs) (alternatives x.items) links (same_links one limits.profile (map run_record v.runs) x.items handover.payload links l.1 x.records) in
          let beyond = x.beyond in
          omega (arith, n, beyond);
    }
