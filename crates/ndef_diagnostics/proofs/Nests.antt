-- The least lengths of payloads that hold a nested message.
use Rattle.std.proofs.Common.{◌≡◌, ◌≢◌, ℕ, ◌+◌, ◌≤◌, ◌⊎◌, inl, inr, Bool, true, false, List, [], ◌∷◌, ◌++◌, length, map, refl, sym, ◌∙◌, ap, subst, arith, length-append}
use Rattle.std.specs.Prelude.{count_by, if◌then◌else◌, unwrap_or}
use Rattle.std.specs.List.{AllByRecursion}
use Rattle.std.proofs.lemmas.List.{append-nil}
use Rattle.std.proofs.lemmas.List.Sums.{sum_by-cons}
use Rattle.ndef_format.specs.Kinds.{kind_name, kind_of}
use Rattle.ndef_format.specs.Messages.{Item, SpellsBy, SpellsPieces, all_pieces, payload_of, run_record}
use Rattle.ndef_format.specs.Nested.{IsComplete, IsPayload, checked, is_uri, kind_in}
use Rattle.ndef_format.specs.Records.{Piece, Run, SpellsPiece, body, fields, octets, pieces, tnf_of}
use Rattle.ndef_format.specs.declared.kind.Kind.{Kind}
use Rattle.ndef_format.specs.declared.kind.Kind.TheVariants.{Other, Uri, Collision}
use Rattle.ndef_format.specs.declared.profile.Profile.{Profile}
use Rattle.ndef_format.specs.declared.table.Table.{Table}
use Rattle.ndef_format.specs.declared.table.Table.TheVariants as tables
use Rattle.ndef_format.specs.declared.tnf.Tnf.{Tnf}
use Rattle.ndef_format.specs.declared.tnf.Tnf.TheVariants.{WellKnown}
use Rattle.ndef_lang.specs.KindLaws.{named_kind}
use Rattle.ndef_diagnostics.specs.Truths.{LeastNestsHold, SelectsAreOneOrFour}
use Rattle.ndef_diagnostics.proofs.Truths.{lengths_hold}

-- ---- pieces

-- a piece has three octets, and its type and its payload
piece_long : (p : Piece) (short : Bool) (front : List ℕ) → SpellsPiece p short front → 3 + length p.kind + length p.payload ≤ length front
piece_long p true front s =
    let e = ap length s.spelled ∙ length-append (octets (fields p true)) (body p) in
    let k = length-append p.kind (unwrap_or p.id [] ++ p.payload) in
    let m = length-append (unwrap_or p.id []) p.payload in
    omega (arith, e, k, m)
piece_long p false front s =
    let e = ap length s.spelled ∙ length-append (octets (fields p false)) (body p) in
    let k = length-append p.kind (unwrap_or p.id [] ++ p.payload) in
    let m = length-append (unwrap_or p.id []) p.payload in
    omega (arith, e, k, m)

-- the first piece of some bytes, and what follows it
pub record Firsts (p : Piece) (ps : List Piece) (bytes : List ℕ) : Type 0 where
  pub rest : List ℕ
  pub long : 3 + length p.kind + length p.payload + length rest ≤ length bytes
  pub spelled : SpellsPieces ps rest

firsts : (p : Piece) (ps : List Piece) (bytes : List ℕ) → SpellsPieces (p ∷ ps) bytes → Firsts p ps bytes
firsts p ps bytes s =
    let front = s.1 in
    let rest = s.2 in
    let e = ap length s.3 ∙ length-append front rest in
    let n = piece_long p s.0 front s.4 in
    record { rest = rest; long = omega (arith, e, n); spelled = s.5 }

-- ---- kinds

checked_kind : (table : Table) (kind other : Kind) → checked table kind ≡ other → other ≢ Other → kind ≡ other
checked_kind table kind other e h = grind arith

named_of : (tnf : Tnf) (name : List ℕ) (kind : Kind) → kind_of tnf name ≡ kind → kind ≢ Other → (tnf ≡ WellKnown) × (name ≡ kind_name kind)
named_of WellKnown name kind e h = (refl, named_kind name (λ o. h (sym e ∙ o)) ∙ ap kind_name e)
named_of _ name kind e h = absurd (h (sym e))

name_in : (table : Table) (tnf : Tnf) (name : List ℕ) (kind : Kind) → kind_in table tnf name ≡ kind → kind ≢ Other → length name ≡ length (kind_name kind)
name_in table tnf name kind e h = ap length (named_of tnf name kind (checked_kind table (kind_of tnf name) kind e h) h).1

of_number : (n : ℕ) → tnf_of n ≡ WellKnown → n ≡ 1
of_number n e = grind arith

pub well_known : (table : Table) (tnf : ℕ) (name : List ℕ) (kind : Kind) → kind_in table (tnf_of tnf) name ≡ kind → kind ≢ Other
    → (tnf ≡ 1) × (name ≡ kind_name kind)
well_known table tnf name kind e h =
    let n = named_of (tnf_of tnf) name kind (checked_kind table (kind_of (tnf_of tnf) name) kind e h) h in (of_number tnf n.0, n.1)

uri_kind : (kind : Kind) → is_uri kind ≡ true → kind ≡ Uri
uri_kind Uri e = refl
uri_kind _ e = cc

-- ---- nested messages

-- an item that doesn't count
uncounted : (p : Item → Bool) (x : Item) (xs : List Item) → p x ≡ false → count_by p xs ≡ 0 → count_by p (x ∷ xs) ≡ 0
uncounted p x xs e z =
    let pick : Bool → ℕ = λ t. if t then 1 else 0 in
    let weight : Item → ℕ = λ y. pick (p y) in
    let f : weight x ≡ 0 = ap pick e in
    let d : weight x + count_by p xs ≡ 0 = omega (arith, f, z) in
    sum_by-cons weight x xs ∙ d

message_long : (runs : List Run) (bytes : List ℕ) → runs ≢ [] → SpellsPieces (all_pieces runs) bytes → 3 ≤ length bytes
message_long [] bytes h s = absurd (h refl)
message_long (r ∷ runs) bytes h s =
    let f = firsts r.initial (r.later ++ all_pieces runs) bytes s in let n = f.long in omega (arith, n)

poster_long : (profile : Profile) (runs : List Run) (bytes : List ℕ) → SpellsPieces (all_pieces runs) bytes
    → AllByRecursion (λ r. r.later ≡ []) runs
    → AllByRecursion (λ i. IsPayload (kind_in tables.SmartPoster i.tnf i.kind) profile i.payload) (map run_record runs)
    → count_by (λ i. is_uri (kind_in tables.SmartPoster i.tnf i.kind)) (map run_record runs) ≢ 0 → 5 ≤ length bytes
poster_long profile [] bytes s single members h = absurd (h refl)
poster_long profile (r ∷ runs) bytes s single members h =
    by_kind (is_uri (kind_in tables.SmartPoster (tnf_of r.initial.tnf) r.initial.kind)) refl
    (λ rest more some. poster_long profile runs rest more single.1 members.1 some)
  where
    by_kind : (t : Bool) → is_uri (kind_in tables.SmartPoster (tnf_of r.initial.tnf) r.initial.kind) ≡ t
        → ((rest : List ℕ) → SpellsPieces (all_pieces runs) rest
        → count_by (λ i. is_uri (kind_in tables.SmartPoster i.tnf i.kind)) (map run_record runs) ≢ 0 → 5 ≤ length rest)
        → 5 ≤ length bytes
    by_kind true e go =
        let f = firsts r.initial (r.later ++ all_pieces runs) bytes s in
        let k = uri_kind (kind_in tables.SmartPoster (tnf_of r.initial.tnf) r.initial.kind) e in
        let n = name_in tables.SmartPoster (tnf_of r.initial.tnf) r.initial.kind Uri k (λ q. cc) in
        let own = subst (λ kind. IsPayload kind profile (payload_of (pieces r))) k members.0 in
        let some = lengths_hold Uri profile (payload_of (pieces r)) own in
        let joined = ap (λ ps. length (payload_of (r.initial ∷ ps))) single.0 ∙ ap length (append-nil r.initial.payload) in
        let long = f.long in
        omega (arith, n, some, joined, long)
    by_kind false e go =
        let f = firsts r.initial (r.later ++ all_pieces runs) bytes s in
        let more = subst (λ ps. SpellsPieces (ps ++ all_pieces runs) f.rest) single.0 f.spelled in
        let later = go f.rest more (λ z. h (uncounted (λ i. is_uri (kind_in tables.SmartPoster i.tnf i.kind)) (run_record r) (map run_record runs) e z)) in
        let long = f.long in
        omega (arith, later, long)

request_long : (profile : Profile) (runs : List Run) (bytes : List ℕ) → SpellsPieces (all_pieces runs) bytes
    → AllByRecursion (λ r. r.later ≡ []) runs
    → AllByRecursion (λ i. IsPayload (kind_in tables.Request i.tnf i.kind) profile i.payload) (map run_record runs)
    → IsComplete tables.Request (map run_record runs) → 7 ≤ length bytes
request_long profile [] bytes s single members h = absurd h
request_long profile (r ∷ runs) bytes s single members h =
    let f = firsts r.initial (r.later ++ all_pieces runs) bytes s in
    let n = name_in tables.Request (tnf_of r.initial.tnf) r.initial.kind Collision h (λ q. cc) in
    let own = subst (λ kind. IsPayload kind profile (payload_of (pieces r))) h members.0 in
    let joined = ap (λ ps. length (payload_of (r.initial ∷ ps))) single.0 ∙ ap length (append-nil r.initial.payload) in
    let size = own.1 in
    let long = f.long in
    omega (arith, n, size, joined, long)

some_runs : (profile : Profile) (runs : List Run) (items : List Item) (bytes : List ℕ) → SpellsBy profile runs items bytes → runs ≢ []
some_runs profile [] items bytes s = λ e. s.message.begins
some_runs profile (r ∷ runs) items bytes s = λ e. cc

-- ---- payloads

pub least_nests : LeastNestsHold
least_nests tables.SmartPoster records profile s (runs, items, n) =
    let e = sym n.spelling.message.items in
    let members = subst (AllByRecursion (λ i. IsPayload (kind_in tables.SmartPoster i.tnf i.kind) profile i.payload)) e n.contents.members in
    let complete = subst (IsComplete tables.SmartPoster) e n.contents.complete in
    poster_long profile runs s n.spelling.spelled n.single members (λ z. omega (arith, complete, z))
least_nests tables.Request records profile [] h = absurd h
least_nests tables.Request records profile (v ∷ s) h =
    let n = h.1.2 in
    let e = sym n.spelling.message.items in
    let members = subst (AllByRecursion (λ i. IsPayload (kind_in tables.Request i.tnf i.kind) profile i.payload)) e n.contents.members in
    let complete = subst (IsComplete tables.Request) e n.contents.complete in
    let long = request_long profile h.1.0 s n.spelling.spelled n.single members complete in
    omega (arith, long)
least_nests tables.Select records profile [] h = absurd h
least_nests tables.Select records profile (v ∷ s) h = omega arith

pub selects : SelectsAreOneOrFour
selects records profile [] h = absurd h
selects records profile (v ∷ s) h = elim h.1 as (λ k. (length (v ∷ s) ≡ 1) ⊎ (4 ≤ length (v ∷ s))) [
  | inl e ↦ inl (ap (λ t. length (v ∷ t)) e)
  | inr n ↦ inr (let long = message_long n.0 s (some_runs profile n.0 n.1 s n.2.spelling) n.2.spelling.spelled in omega (arith, long))
]
