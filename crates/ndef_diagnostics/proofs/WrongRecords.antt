-- The sentences about the records of a nested message are true.
use Rattle.std.proofs.Common.{◌≡◌, ◌≢◌, ◌+◌, ◌<◌, ◌≤◌, ℕ, Bool, true, List, [], ◌∷◌, ◌++◌, inl, inr, length, drop, refl, sym, ◌∙◌, ap, ap₂, subst, arith, append_assoc, length-append}
use Rattle.std.specs.Prelude.{⊤, codes, slice_index}
use Rattle.std.specs.List.{AllByRecursion}
use Rattle.std.proofs.lemmas.List.{append-nil}
use Rattle.ndef_format.specs.HeadReasons.{conditions, is_set, tnf_number}
use Rattle.ndef_format.specs.Limits.{LimitValues}
use Rattle.ndef_format.specs.Messages.{EndsOnce, SpellsPieces, all_pieces}
use Rattle.ndef_format.specs.Nested.{kind_in}
use Rattle.ndef_format.specs.NestedReasons.{HasUri, IsCollisionMissing, IsUriAgain, IsUriMissing, Listed, MessageReason, OfField, OfMessage, nested_limits}
use Rattle.ndef_format.specs.PayloadReasons.{PayloadReason}
use Rattle.ndef_format.specs.Positions.{Field, InHead, InPayload, InType, IsAt, IsProper, octets_so_far, spot_after}
use Rattle.ndef_format.specs.Reasons.{rank_of}
use Rattle.ndef_format.specs.Records.{Follow, Piece, Run, SpellsPiece, body, fields, octets, tnf_of}
use Rattle.ndef_format.specs.declared.kind.Kind.{Kind}
use Rattle.ndef_format.specs.declared.kind.Kind.TheVariants as kinds
use Rattle.ndef_format.specs.declared.profile.Profile.{Profile}
use Rattle.ndef_format.specs.declared.reason.Reason.{Reason}
use Rattle.ndef_format.specs.declared.reason.Reason.TheVariants as reasons
use Rattle.ndef_format.specs.declared.spot.Spot.{Spot}
use Rattle.ndef_format.specs.declared.table.Table.{Table}
use Rattle.ndef_format.specs.declared.table.Table.TheVariants.{Request, SmartPoster}
use Rattle.ndef_piece.specs.Come.{body_given}
use Rattle.ndef_piece.specs.ComeLaws.{head_come, piece_spelled}
use Rattle.ndef_piece.specs.HeaderLaws.{header_parts}
use Rattle.ndef_fields.specs.Refusals.{AreWholeBefore}
use Rattle.ndef_fields.proofs.FrontLaws.{same_pieces}
use Rattle.ndef_fields.proofs.Proper.{not_whole}
use Rattle.ndef_diagnostics.specs.Truths.{CollisionsAreMissing, IsOther, UrisAreMissing, UrisComeAgain}
use Rattle.ndef_diagnostics.proofs.Ends.{go_on}
use Rattle.ndef_diagnostics.proofs.Nests.{well_known}
use Rattle.ndef_diagnostics.proofs.PieceFronts.{front_tells}

-- ---- the condition that holds

payload_other : (kind : Kind) (profile : Profile) (s : List ℕ) (b : ℕ) (r : Reason) → 20 ≤ rank_of r → rank_of r ≤ 23 → PayloadReason kind profile s b r → ⊥
payload_other kind profile s b r l m h = grind arith

head_other : (spot : Spot) (front : List ℕ) (b : ℕ) (r : Reason) → 20 ≤ rank_of r → Listed (conditions spot front b) r → ⊥
head_other spot front b r l h = grind arith

field_other : (table : Table) (records : ℕ) (profile : Profile) (runs : List Run) (field : Field) (b : ℕ) (r : Reason) → 20 ≤ rank_of r
    → rank_of r ≤ 23 → OfField table records profile runs field b r → ⊥
field_other table records profile runs (InHead front) b r l m h =
    head_other (spot_after (nested_limits records profile) runs []) front b r l h
field_other table records profile runs (InPayload head name id content) b r l m h =
    payload_other (kind_in table (tnf_of head.tnf) name) profile content b r l m h
field_other table records profile runs field b r l m h = h

-- the place of an octet that is refused by a condition of the message
record Holds (table : Table) (records : ℕ) (profile : Profile) (s : List ℕ) (b : ℕ) (r : Reason) : Type 0 where
  runs : List Run
  field : Field
  at : IsAt (nested_limits records profile) s runs [] field
  condition : OfMessage table runs field b r

holds : (table : Table) (records : ℕ) (profile : Profile) (s : List ℕ) (b : ℕ) (r : Reason) → 20 ≤ rank_of r → rank_of r ≤ 23
    → MessageReason table records profile s b r → Holds table records profile s b r
holds table records profile s b r l m (inl (runs, field, at, inl h)) = absurd (field_other table records profile runs field b r l m h)
holds table records profile s b r l m (inl (runs, field, at, inr h)) = record { runs = runs; field = field; at = at; condition = h }
holds table records profile s b r l m (inr e) = absurd (omega (arith, ap rank_of e, m))

-- ---- the piece of that octet

kind_goes_on : (name : List ℕ) (b : ℕ) (more kind after : List ℕ) → name ++ b ∷ more ≡ kind ++ after → length name < length kind
    → (rest : List ℕ) × (kind ≡ name ++ b ∷ rest)
kind_goes_on [] b more (k ∷ kind) after e l = (kind, ap (λ x. x ∷ kind) (ap (λ z. slice_index z 0) (sym e)))
kind_goes_on (n ∷ name) b more (k ∷ kind) after e l =
    let r = kind_goes_on name b more kind after (ap (drop 1) e) (omega (arith, l)) in
    (r.0, ap₂ (λ x xs. x ∷ xs) (ap (λ z. slice_index z 0) (sym e)) r.1)
kind_goes_on name b more [] after e l = absurd (omega (arith, l))

-- what the octet says of it, by its field
abbrev Tells : Field → ℕ → Piece → Type 0
Tells (InHead []) b p = (is_set 6 b ≡ p.last) × (tnf_number b ≡ p.tnf)
Tells (InHead (h ∷ [])) b p = (is_set 6 h ≡ p.last) × (b ≡ length p.kind)
Tells (InType head name) b p = (head.last ≡ p.last) × (head.tnf ≡ p.tnf) × (head.kind_length ≡ length p.kind)
    × ((rest : List ℕ) × (p.kind ≡ name ++ b ∷ rest))
Tells field b p = ⊤

tells : (spot : Spot) (field : Field) (b : ℕ) (more : List ℕ) (p : Piece) (short : Bool) (front rest : List ℕ) → IsProper spot field
    → octets_so_far field ++ b ∷ more ≡ front ++ rest → SpellsPiece p short front → Tells field b p
tells spot (InHead []) b more p short front rest w e i =
    let f = front_tells p short (b ∷ []) more front rest (omega arith) i e in (f.last, f.tnf)
tells spot (InHead (h ∷ [])) b more p short front rest w e i =
    let f = front_tells p short (h ∷ b ∷ []) more front rest (omega arith) i e in (f.last, f.whole_kind (omega arith))
tells spot (InType head name) b more p short front rest w e i =
    let c = w.0.stands.spelled in
    let s = octets head in
    let x : s ++ (name ++ b ∷ more) ≡ front ++ rest = sym (append_assoc s name (b ∷ more)) ∙ e in
    let y = ap (λ z. z ++ rest) i.spelled ∙ append_assoc (octets (fields p short)) (body p) rest in
    let f = front_tells p short s (name ++ b ∷ more) front rest (omega arith) i x in
    let q = header_parts head c.tnf in
    let k = sym (head_come head (name ++ b ∷ more) c).body ∙ ap (λ z. body_given (slice_index z 0) (drop 2 z)) (x ∙ y)
    ∙ (head_come (fields p short) (body p ++ rest) (piece_spelled p short front i)).body in
    let n = f.whole_kind (omega arith) in
    (sym q.ends ∙ f.last, sym q.tnf ∙ f.tnf, n, kind_goes_on name b more p.kind _ (k ∙ append_assoc p.kind _ rest) (omega (arith, w.1, n)))
tells spot field b more p short front rest w e i = tt

record Next (come : List Piece) (field : Field) (b : ℕ) (ps : List Piece) : Type 0 where
  piece : Piece
  others : List Piece
  follow : ps ≡ come ++ piece ∷ others
  says : Tells field b piece

come : (limits : LimitValues) (s : List ℕ) (runs : List Run) (field : Field) (at : IsAt limits s runs [] field) → SpellsPieces (all_pieces runs) at.front
come limits s runs field at = subst (λ ps. SpellsPieces ps at.front) (append-nil (all_pieces runs)) at.spelled

next : (limits : LimitValues) (s : List ℕ) (runs : List Run) (field : Field) (b : ℕ) (more : List ℕ) (ps : List Piece) → IsAt limits s runs [] field
    → SpellsPieces ps (s ++ b ∷ more) → Next (all_pieces runs) field b ps
next limits s runs field b more ps at i =
    let o = octets_so_far field in
    let spelled = subst (SpellsPieces ps) (ap (λ z. z ++ b ∷ more) at.split ∙ append_assoc at.front o (b ∷ more)) i in
    let k = go_on (all_pieces runs) ps at.front (o ++ b ∷ more) (come limits s runs field at) spelled (omega (arith, length-append o (b ∷ more))) in
    first k.0 k.1 k.2 k.3
  where
    first : (others : List Piece) → ps ≡ all_pieces runs ++ others → others ≢ [] → SpellsPieces others (octets_so_far field ++ b ∷ more)
        → Next (all_pieces runs) field b ps
    first [] e h j = absurd (h refl)
    first (p ∷ others) e h (short, front, rest, x, j, n) =
        record { piece = p; others = others; follow = e; says = tells _ field b more p short front rest at.proper x j }

-- ---- kinds

one : (kind name : List ℕ) (b : ℕ) (rest : List ℕ) → kind ≡ name ++ b ∷ rest → length kind ≡ 1 → kind ≡ b ∷ []
one kind [] b [] e l = e
one kind [] b (x ∷ rest) e l = absurd (omega (arith, ap length e, l))
one kind (n ∷ name) b rest e l = absurd (omega (arith, ap length e, length-append name (b ∷ rest), l))

uri_known : (p : Piece) → kind_in SmartPoster (tnf_of p.tnf) p.kind ≡ kinds.Uri → (p.tnf ≡ 1) × (p.kind ≡ codes "U")
uri_known p k = well_known SmartPoster p.tnf p.kind kinds.Uri k (λ q. cc)

uri_no : (field : Field) (b : ℕ) (p : Piece) → IsUriMissing field b → Tells field b p → (p.last ≡ true) × IsOther SmartPoster kinds.Uri p
uri_no (InHead []) b p m t = (sym t.0 ∙ m.0, λ k. m.1 (t.1 ∙ (uri_known p k).0))
uri_no (InHead (h ∷ [])) b p m t = (sym t.0 ∙ m.0, λ k. m.1 (t.1 ∙ ap length (uri_known p k).1))
uri_no (InType head name) b p m t = (
  sym t.0 ∙ m.0,
  λ k. (let u = (uri_known p k).1 in m.1 (ap (λ z. slice_index z 0) (sym (one p.kind name b t.3.0 t.3.1 (ap length u)) ∙ u))),
)
uri_no field b p m t = absurd m

collision_no : (field : Field) (b : ℕ) (p : Piece) → IsCollisionMissing field b → Tells field b p → p.tnf ≡ 1 → p.kind ≡ codes "cr" → ⊥
collision_no (InHead []) b p m t n k = m (t.1 ∙ n)
collision_no (InHead (h ∷ [])) b p m t n k = m (t.1 ∙ ap length k)
collision_no (InType head []) b p m t n k = m (ap (λ z. slice_index z 0) (sym t.3.1 ∙ k))
collision_no (InType head (first ∷ [])) b p m t n k = m (ap (λ z. slice_index z 1) (sym t.3.1 ∙ k))
collision_no field b p m t n k = m

-- ---- records before it

joined : (P : Piece → Type 0) (xs ys : List Piece) → AllByRecursion P xs → AllByRecursion P ys → AllByRecursion P (xs ++ ys)
joined P [] ys a b = b
joined P (x ∷ xs) ys a b = (a.0, joined P xs ys a.1 b)

later_no : (chunked : Bool) (ps : List Piece) → Follow chunked ps → AllByRecursion (IsOther SmartPoster kinds.Uri) ps
later_no chunked [] f = tt
later_no chunked (p ∷ ps) f =
    (λ k. (let n = (uri_known p k).0 in omega (arith, n, f.1.tnf)), later_no p.chunked ps f.2)

runs_no : (runs : List Run) → AllByRecursion (λ r. Follow r.initial.chunked r.later) runs → (HasUri runs → ⊥)
    → AllByRecursion (IsOther SmartPoster kinds.Uri) (all_pieces runs)
runs_no [] f h = tt
runs_no (r ∷ runs) f h = (λ k. h (inl k), joined _ r.later (all_pieces runs) (later_no r.initial.chunked r.later f.0) (runs_no runs f.1 (λ u. h (inr u))))

-- ---- the laws

pub collisions_missing : CollisionsAreMissing
collisions_missing records profile s more b ps r i =
    let h = holds Request records profile s b reasons.CollisionMissing (omega arith) (omega arith) r in
    let n = next _ s h.runs h.field b more ps h.at i in
    let c = h.condition in (
      n.piece,
      n.others,
      subst (λ runs. ps ≡ all_pieces runs ++ n.piece ∷ n.others) c.1 n.follow,
      λ k. (let w = well_known Request n.piece.tnf n.piece.kind kinds.Collision k (λ q. cc) in collision_no h.field b n.piece c.2 n.says w.0 w.1),
    )

ends_here : (come others : List Piece) (p : Piece) → p.last ≡ true → EndsOnce (come ++ p ∷ others) → others ≡ []
ends_here [] [] p l e = refl
ends_here [] (q ∷ others) p l e = let x = e.0 in cc
ends_here (c ∷ []) others p l e = ends_here [] others p l e.1
ends_here (c ∷ d ∷ come) others p l e = ends_here (d ∷ come) others p l e.1

same_whole : (limits : LimitValues) (s inner : List ℕ) (runs : List Run) (field : Field) (whole : AreWholeBefore s inner) → IsAt limits s runs [] field
    → whole.pieces ≡ all_pieces runs
same_whole limits s inner runs field whole at =
    (same_pieces whole.pieces (all_pieces runs) whole.front at.front inner (octets_so_far field) whole.spelled (come limits s runs field at)
    (sym whole.split ∙ at.split) whole.ended (not_whole _ field at.proper)).pieces

pub uris_missing : UrisAreMissing
uris_missing records profile s inner more b whole ps r i last =
    let h = holds SmartPoster records profile s b reasons.UriMissing (omega arith) (omega arith) r in
    let n = next _ s h.runs h.field b more ps h.at i in
    let before = all_pieces h.runs in
    elim h.condition [
      | inl c ↦
          let u = uri_no h.field b n.piece c.2 n.says in
          let none = ends_here before n.others n.piece u.0 (subst EndsOnce n.follow last) in
          let is : ps ≡ before ++ n.piece ∷ [] = n.follow ∙ ap (λ x. before ++ n.piece ∷ x) none in
          let same = same_whole _ s inner h.runs h.field whole h.at in (
            ap length is ∙ length-append before (n.piece ∷ []) ∙ ap (λ x. length x + 1) (sym same),
            subst (AllByRecursion (IsOther SmartPoster kinds.Uri)) (sym is)
                (joined _ before (n.piece ∷ []) (runs_no h.runs h.at.before.whole c.1) (u.1, tt)),
          )
      | inr c ↦ absurd (let e = c.0 in cc)
    ]

uri_is : (field : Field) (b : ℕ) (p : Piece) → IsUriAgain field b → Tells field b p → kind_in SmartPoster (tnf_of p.tnf) p.kind ≡ kinds.Uri
uri_is (InType head name) b p m t =
    let kind = one p.kind name b t.3.0 t.3.1 (sym t.2 ∙ m.1) ∙ ap (λ x. x ∷ []) m.2 in
    ap₂ (kind_in SmartPoster) (ap tnf_of (sym t.1) ∙ m.0) kind
uri_is field b p m t = absurd m

had_uri : (runs : List Run) → HasUri runs → AllByRecursion (IsOther SmartPoster kinds.Uri) (all_pieces runs) → ⊥
had_uri [] u a = u
had_uri (r ∷ runs) (inl u) a = a.0 u
had_uri (r ∷ runs) (inr u) a = had_uri runs u (left r.later a.1)
  where
    left : (xs : List Piece) → AllByRecursion (IsOther SmartPoster kinds.Uri) (xs ++ all_pieces runs) → AllByRecursion (IsOther SmartPoster kinds.Uri) (all_pieces runs)
    left [] a = a
    left (x ∷ xs) a = left xs a.1

pub uris_again : UrisComeAgain
uris_again records profile s inner more b whole ps r i =
    let h = holds SmartPoster records profile s b reasons.UriAgain (omega arith) (omega arith) r in
    let n = next _ s h.runs h.field b more ps h.at i in
    let same = same_whole _ s inner h.runs h.field whole h.at in
    elim h.condition [
      | inl c ↦ absurd (let e = c.0 in cc)
      | inr c ↦ record {
        piece = n.piece;
        others = n.others;
        follow = subst (λ x. ps ≡ x ++ n.piece ∷ n.others) (sym same) n.follow;
        before = λ a. had_uri h.runs c.1 (subst (AllByRecursion (IsOther SmartPoster kinds.Uri)) same a);
        uri = uri_is h.field b n.piece c.2 n.says;
      }
    ]
