-- The records of smart posters.
use Rattle.std.proofs.Common.{◌≡◌, ◌≢◌, ℕ, ◌+◌, ◌<◌, suc, false, Bor, List, [], ◌∷◌, ◌++◌, length, map, refl, sym, ap, ◌∙◌, subst, arith, inl, inr, Option, Some, None, lt-ltb, le-ltb}
use Rattle.std.specs.Prelude.{IfSome, option_map, if◌then◌else◌}
use Rattle.std.proofs.lemmas.Bool.{cases_lt}
use Rattle.std.proofs.lemmas.List.{get_or_past}
use Rattle.std.specs.List.{AllByRecursion}
use Rattle.ndef_format.specs.Messages.{Item, SpellsBy, SpellsPieces, all_pieces, run_record}
use Rattle.ndef_format.specs.Octets.{AreOctetsOf}
use Rattle.ndef_format.specs.Records.{Run}
use Rattle.ndef_format.specs.declared.profile.Profile.{Profile}
use Rattle.ndef_format.specs.declared.kind.Kind.{Kind}
use Rattle.ndef_format.specs.declared.kind.Kind.TheVariants as kinds
use Rattle.ndef_format.specs.Nested.{HasContents, IsComplete, IsNest, IsPayload, is_uri, kind_in, table_in}
use Rattle.ndef_format.specs.declared.table.Table.{Table}
use Rattle.ndef_format.specs.declared.table.Table.TheVariants.{SmartPoster}
use Rattle.ndef_piece.specs.Steps.{inner_by}
use Rattle.ndef_types.specs.Contents.{IsFirstOf, IsOfKind, Lack}
use Rattle.ndef_types.specs.ContentsLaws.{no_uris}
use Rattle.ndef_types.specs.Posters.{IsUriOf, Says, is_text, plain, plain_code, plain_payload, titles}
use Rattle.ndef_types.specs.Prefixes.{prefix_of, prefixes}
use Rattle.ndef_types.specs.Values.{StandsForUri}
use Rattle.ndef_tool.specs.Members.{AreMembers, Counts, IsFirstMember}
use Rattle.ndef_tool.specs.declared.nested.Member.{Member}

pub all_counted : (items : List Item) (members : List Member) → AreMembers SmartPoster items members → length members ≡ length (map plain items)
all_counted [] [] are = refl
all_counted [] (m ∷ members) are = absurd are
all_counted (i ∷ items) [] are = absurd are
all_counted (i ∷ items) (m ∷ members) are = ap suc (all_counted items members are.2)

not_text : (kind : Kind) → kind ≢ kinds.Text → is_text kind ≡ false
not_text kinds.Text h = absurd (h refl)
not_text _ h = refl

pub titles_counted : (items : List Item) (members : List Member) (n : ℕ) → AreMembers SmartPoster items members → Counts kinds.Text members n → n ≡ length (titles (map plain items))
titles_counted [] [] n are c = c
titles_counted [] (m ∷ members) n are c = absurd are
titles_counted (i ∷ items) [] n are c = absurd are
titles_counted (i ∷ items) (m ∷ members) n are (inl (e, k, d, c)) =
    let rest = titles (map plain items) in
    omega (arith, d, titles_counted items members k are.2 c, ap (λ kind. length (if is_text kind then plain i ∷ rest else rest)) (sym are.0 ∙ e))
titles_counted (i ∷ items) (m ∷ members) n are (inr (e, c)) =
    let rest = titles (map plain items) in
    titles_counted items members n are.2 c
    ∙ sym (ap (λ b. length (if b then plain i ∷ rest else rest)) (not_text (kind_in SmartPoster i.tnf i.kind) (λ k. e (are.0 ∙ k))))

-- the record of the kind that comes first, if there is one, and its payload
abbrev pub IsSaid : Profile → Kind → List Item → Option (List ℕ) → Type 0
IsSaid profile kind items o = (i : Option Item) × IsFirstOf (IsOfKind SmartPoster kind) (map plain items) (option_map plain i)
    × (o ≡ option_map (λ x. x.payload) i) × IfSome i (λ x. (kind_in SmartPoster x.tnf x.kind ≡ kind) × IsPayload kind profile x.payload)

later : (profile : Profile) (kind : Kind) (i : Item) (items : List Item) (o : Option (List ℕ)) → kind_in SmartPoster i.tnf i.kind ≢ kind → IsSaid profile kind items o
    → IsSaid profile kind (i ∷ items) o
later profile kind i items o other (None, first, e, v) = (None, (other, first), e, v)
later profile kind i items o other (Some x, (n, f), e, v) = (Some x, (suc n, record { at = f.at; has = f.has; before = (other, f.before) }), e, v)

said : (profile : Profile) (kind : Kind) (items : List Item) (members : List Member) (o : Option (List ℕ)) → AreMembers SmartPoster items members
    → AllByRecursion (λ i. IsPayload (kind_in SmartPoster i.tnf i.kind) profile i.payload) items → IsFirstMember kind members o → IsSaid profile kind items o
said profile kind [] [] o are h f = (None, tt, f, tt)
said profile kind [] (m ∷ members) o are h f = absurd are
said profile kind (i ∷ items) [] o are h f = absurd are
said profile kind (i ∷ items) (m ∷ members) o are h (inl (k, e)) =
    let is = sym are.0 ∙ k in
    (Some i, (0, record { at = refl; has = is; before = tt }), e ∙ ap (λ x. Some x) are.1, (is, subst (λ k. IsPayload k profile i.payload) is h.0))
said profile kind (i ∷ items) (m ∷ members) o are h (inr (k, f)) =
    later profile kind i items o (λ is. k (are.0 ∙ is)) (said profile kind items members o are.2 h.1 f)

pub valid : (profile : Profile) (kind : Kind) (items : List Item) (o : Option (List ℕ)) → IsSaid profile kind items o → IfSome o (IsPayload kind profile)
valid profile kind items o (None, first, e, v) = rw e tt
valid profile kind items o (Some x, first, e, v) = rw e v.1

-- a value that only the payload determines
pub value_said : {V : Type 0} (profile : Profile) (kind : Kind) (value : List ℕ → V) (items : List Item) (o : Option (List ℕ)) → is_uri kind ≡ false → IsSaid profile kind items o
    → Says kind (λ i. value i.payload) (map plain items) (option_map value o)
value_said profile kind value items o other (None, first, e, v) = (None, first, ap (option_map value) e)
value_said profile kind value items o other (Some x, first, e, v) =
    let same : (plain x).payload ≡ x.payload = ap (λ b. if b then plain_payload x.payload else x.payload) (ap is_uri v.0 ∙ other) in
    (Some (plain x), first, ap (option_map value) e ∙ ap (λ s. Some (value s)) (sym same))

-- ---- the URI

no_uri : (items : List Item) (members : List Member) → AreMembers SmartPoster items members → IsFirstMember kinds.Uri members None → Lack (IsOfKind SmartPoster kinds.Uri) items
no_uri [] [] are f = tt
no_uri [] (m ∷ members) are f = absurd are
no_uri (i ∷ items) [] are f = absurd are
no_uri (i ∷ items) (m ∷ members) are (inl (k, e)) = absurd (cc)
no_uri (i ∷ items) (m ∷ members) are (inr (k, f)) = (λ is. k (are.0 ∙ is), no_uri items members are.2 f)

pub has_uri : (items : List Item) (members : List Member) → AreMembers SmartPoster items members → IsComplete SmartPoster items → IsFirstMember kinds.Uri members None → ⊥
has_uri items members are complete f = omega (arith, complete, no_uris items (no_uri items members are f))

plain_prefix : (code : ℕ) → prefix_of (plain_code code) ≡ prefix_of code
unfolding prefix_of
plain_prefix code =
    elim (cases_lt 0x23 code) as (λ v. prefix_of (plain_code code) ≡ prefix_of code) [
      | inl x ↦ rw (lt-ltb 0x23 code x) (sym (get_or_past prefixes code [] (omega (arith, x))))
      | inr x ↦ rw (le-ltb 0x23 code x) refl
    ]

plain_stands : (payload uri : List ℕ) → StandsForUri payload uri → StandsForUri (plain_payload payload) uri
plain_stands [] uri h = h
plain_stands (code ∷ rest) uri h = h ∙ ap (λ prefix. prefix ++ rest) (sym (plain_prefix code))

pub uri_said : (profile : Profile) (items : List Item) (payload uri : List ℕ) → StandsForUri payload uri → IsSaid profile kinds.Uri items (Some payload) → IsUriOf (map plain items) uri
uri_said profile items payload uri h (None, first, e, v) = absurd (cc)
uri_said profile items payload uri h (Some x, first, e, v) =
    let same : payload ≡ x.payload = cc in
    let is : (plain x).payload ≡ plain_payload x.payload = ap (λ kind. if is_uri kind then plain_payload x.payload else x.payload) v.0 in
    (plain x, first, subst (λ s. StandsForUri s uri) (sym is) (plain_stands x.payload uri (subst (λ s. StandsForUri s uri) same h)))

-- ---- all of it

-- the payload is a poster with these records
pub record IsPoster (profile : Profile) (payload : List ℕ) (members : List Member) : Type 0 where
  pub runs : List Run
  pub read : List Item
  pub spelling : SpellsBy profile runs read payload
  pub contents : HasContents SmartPoster profile read
  pub are : AreMembers SmartPoster read members

pub poster_members : (profile : Profile) (payload : List ℕ) (members : List Member) → IsNest SmartPoster 65535 profile payload
    → ((table : Table) (runs : List Run) → table_in kinds.SmartPoster ≡ Some table → AllByRecursion (λ r. r.later ≡ []) runs → SpellsPieces (all_pieces runs) (inner_by (Some table) payload)
    → AreMembers table (map run_record runs) members) → IsPoster profile payload members
poster_members profile payload members (runs, items, n) f = record {
  runs = runs;
  read = items;
  spelling = n.spelling;
  contents = n.contents;
  are = subst (λ x. AreMembers SmartPoster x members) n.spelling.message.items (f SmartPoster runs refl n.single n.spelling.spelled);
}

pub said_of : (profile : Profile) (payload : List ℕ) (members shown : List Member) (kind : Kind) (o : Option (List ℕ)) (p : IsPoster profile payload members) → shown ≡ members
    → IsFirstMember kind shown o → IsSaid profile kind p.read o
said_of profile payload members shown kind o p e f = said profile kind p.read members o p.are p.contents.members (subst (λ ms. IsFirstMember kind ms o) e f)

pub mapped : {A B C : Type 0} (f : A → B) (g : B → C) (o : Option A) → option_map g (option_map f o) ≡ option_map (λ x. g (f x)) o
mapped f g None = refl
mapped f g (Some a) = refl

pub action_there : (profile : Profile) (o : Option (Bor (List ℕ))) → IfSome (option_map (λ s. s.now) o) (IsPayload kinds.Action profile) → IfSome o (λ s. 0 < length s.now)
action_there profile None h = tt
action_there profile (Some s) h = omega (arith, h.1)

pub size_there : (profile : Profile) (o : Option (Bor (List ℕ))) → IfSome (option_map (λ s. s.now) o) (IsPayload kinds.Size profile) → IfSome o (λ s. AreOctetsOf 4 s.now)
size_there profile None h = tt
size_there profile (Some s) h = h
