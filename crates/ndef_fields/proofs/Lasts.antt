-- The last field of a front of a message and one octet more is that of the octet.
use Rattle.std.proofs.Common.{◌≡◌, ℕ, zero, suc, ◌+◌, ◌<◌, refl, sym, ◌∙◌, ap, ap₂, subst, arith, Option, Some, None, inl, inr, List, [], ◌∷◌, ◌++◌, length, length-append, length-drop, take, drop, append_assoc}
use Rattle.std.specs.Prelude.{⊤, slice_index}
use Rattle.std.specs.List.{AllByRecursion}
use Rattle.std.proofs.lemmas.Bool.{cases_lt}
use Rattle.std.proofs.lemmas.List.{append-nil, drop_all}
use Rattle.std.proofs.Math.Seq.{drop-nil, take-nil}
use Rattle.ndef_format.specs.Records.{HeadFields, octets, tnf_of}
use Rattle.ndef_format.specs.Messages.{all_pieces}
use Rattle.ndef_format.specs.HeadReasons.{tnf_number, width}
use Rattle.ndef_format.specs.Kinds.{kind_of, outer_kind}
use Rattle.ndef_format.specs.Nested.{kind_in, table_in}
use Rattle.ndef_format.specs.declared.kind.Kind.{Kind}
use Rattle.ndef_format.specs.declared.spot.Spot.{Spot}
use Rattle.ndef_format.specs.declared.table.Table.{Table}
use Rattle.ndef_format.specs.declared.table.Table.TheVariants as tables
use Rattle.ndef_format.specs.Positions.{Field, InHead, InType, InId, InPayload, AtEnd, CanBeSpelled, IsOpen, IsProper, octets_so_far, spot_after}
use Rattle.ndef_piece.specs.HeaderLaws.{header, header_parts}
use Rattle.ndef_piece.specs.Come.{fronts, id_given, id_length_width, lengths_width}
use Rattle.ndef_piece.specs.ComeLaws.{Come, come, fronts_begun}
use Rattle.ndef_fields.specs.declared.field.Field.{Field as Reported}
use Rattle.ndef_fields.specs.declared.last.ByteField.{ByteField}
use Rattle.ndef_fields.specs.declared.name.FieldName.{FieldName}
use Rattle.ndef_fields.specs.declared.name.FieldName.TheVariants as names
use Rattle.ndef_fields.specs.Fronts.{content_come, front_parts, id_come, id_length_come, inner_come, kind_begun, kind_come, payload_length_come, tnf_come}
use Rattle.ndef_fields.specs.Lasts.{EndsIn, StandsIn, IsFieldOf, IsFieldOfLast, IsInnerField, IsLastBy, IsLastInside, kind_there}
use Rattle.ndef_fields.specs.Parts.{Part, placed, reported}
use Rattle.ndef_fields.specs.Payloads.{leaf_parts}
use Rattle.ndef_fields.specs.Refusals.{IsNameOf}
use Rattle.ndef_fields.specs.Walks.{inner_in, outer_come, outer_in, parts_along, parts_by, payload_parts}
use Rattle.ndef_fields.proofs.Filled.{Anywhere, fill_inner, fill_leaf, fill_outer, fill_payload, nothing, something}
use Rattle.ndef_fields.proofs.Proper.{came, content_more, id_more, short_head, type_more}
use Rattle.ndef_fields.proofs.StepFields.{nothing_inside}
use Rattle.ndef_fields.proofs.SoFar.{in_id, in_type}
use Rattle.ndef_fields.proofs.Walks.{parts_after}

-- ---- the last of some parts

-- the last of some parts is this field
abbrev EndsInField : List Part → ByteField → Type 0
EndsInField [] byte = ⊥
EndsInField (part ∷ []) byte = (byte.depth ≡ part.depth) × (byte.name ≡ part.name)
EndsInField (part ∷ next ∷ parts) byte = EndsInField (next ∷ parts) byte

-- the last of these fields; this one where there are none
abbrev pub last_from : ByteField → List Reported → ByteField
last_from byte [] = byte
last_from byte (f ∷ fields) = last_from (record { depth = f.depth; name = f.name }) fields

last_ends : (at : ℕ) (parts : List Part) (byte : ByteField) → 0 < length parts → EndsInField parts (last_from byte (placed at parts))
last_ends at [] byte n = absurd (omega (arith, n))
last_ends at (part ∷ []) byte n = (refl, refl)
last_ends at (part ∷ next ∷ parts) byte n = last_ends (at + length part.octets) (next ∷ parts) (record { depth = part.depth; name = part.name }) (omega arith)

back : (xs ys : List Part) (byte : ByteField) → 0 < length ys → EndsInField (xs ++ ys) byte → EndsInField ys byte
back [] ys byte n h = h
back (x ∷ []) [] byte n h = absurd (omega (arith, n))
back (x ∷ []) (y ∷ ys) byte n h = h
back (x ∷ z ∷ xs) ys byte n h = back (z ∷ xs) ys byte n h

some_reported : (depth : ℕ) (name : FieldName) (s : List ℕ) → 0 < length s → 0 < length (reported depth name s)
some_reported depth name [] n = absurd (omega (arith, n))
some_reported depth name (b ∷ s) n = omega arith

some_front : (depth : ℕ) (t : List ℕ) (y : List Part) → 0 < length t → 0 < length (front_parts depth t y)
some_front depth [] y n = absurd (omega (arith, n))
some_front depth (b ∷ t) y n = omega arith

-- the last of parts at one depth
ends_there : (depth : ℕ) (parts : List Part) (byte : ByteField) → AllByRecursion (λ part. (0 < length part.octets) × (part.depth ≡ depth)) parts → EndsInField parts byte
    → (byte.depth ≡ depth) × EndsIn parts byte.name
ends_there depth [] byte all h = absurd h
ends_there depth (part ∷ []) byte all h = (h.0 ∙ all.0.1, h.1)
ends_there depth (part ∷ next ∷ parts) byte all h = ends_there depth (next ∷ parts) byte all.1 h

-- ---- a field of a head

-- what has come of a piece after its first two octets
record NoneCome (t : List ℕ) : Type 0 where
  payload_length : payload_length_come t ≡ []
  id_length : id_length_come t ≡ []

record NoBody (t : List ℕ) : Type 0 where
  kind : kind_come t ≡ []
  id : id_come t ≡ []
  content : content_come t ≡ []

none_come : (t : List ℕ) → drop 2 t ≡ [] → NoneCome t
none_come t e =
    let w = width (slice_index t 0) in
    record {
      payload_length = ap (take w) e ∙ take-nil w;
      id_length = ap (λ x. take (id_length_width (slice_index t 0)) (drop w x)) e ∙ ap (take (id_length_width (slice_index t 0))) (drop-nil w) ∙ take-nil _;
    }

no_body : (t : List ℕ) → drop (lengths_width (slice_index t 0)) (drop 2 t) ≡ [] → NoBody t
no_body t b =
    let k = slice_index t 1 in
    let i = id_given (slice_index t 0) (drop 2 t) in
    record {
      kind = ap (take k) b ∙ take-nil k;
      id = ap (λ x. take i (drop k x)) b ∙ ap (take i) (drop-nil k) ∙ take-nil i;
      content = ap (drop (k + i)) b ∙ drop-nil (k + i);
    }

module _ (depth : ℕ) (byte : ByteField) where
  one : (name : FieldName) (s : List ℕ) → 0 < length s → EndsInField (reported depth name s) byte → (byte.depth ≡ depth) × (byte.name ≡ name)
  one name [] n h = absurd h
  one name (b ∷ s) n h = h

  -- the last that has octets
  ends : (pre : List Part) (name : FieldName) (s : List ℕ) (post whole : List Part) → whole ≡ pre ++ (reported depth name s ++ post) → post ≡ [] → 0 < length s
      → EndsInField whole byte → (byte.depth ≡ depth) × (byte.name ≡ name)
  ends pre name s post whole e o n h =
      let x = reported depth name s in
      one name s n
      (back pre x byte (some_reported depth name s n) (subst (λ p. EndsInField p byte) (e ∙ ap (λ y. pre ++ (x ++ y)) o ∙ ap (λ y. pre ++ y) (append-nil x)) h))

  module _ (t : List ℕ) (y : List Part) (none : content_come t ≡ [] → y ≡ []) (h : EndsInField (front_parts depth t y) byte) where
    abbrev a : List Part
    a = reported depth names.Header (take 1 t)

    abbrev b : List Part
    b = reported depth names.KindLength (take 1 (drop 1 t))

    abbrev c : List Part
    c = reported depth names.PayloadLength (payload_length_come t)

    abbrev d : List Part
    d = reported depth names.IdLength (id_length_come t)

    abbrev e : List Part
    e = reported depth names.Kind (kind_come t)

    abbrev f : List Part
    f = reported depth names.Id (id_come t)

    no_more : NoBody t → e ++ (f ++ y) ≡ []
    no_more n = ap₂ (λ k i. reported depth names.Kind k ++ (reported depth names.Id i ++ y)) n.kind n.id ∙ none n.content

    no_lengths : NoneCome t → c ++ (d ++ (e ++ (f ++ y))) ≡ e ++ (f ++ y)
    no_lengths n = ap₂ (λ p i. reported depth names.PayloadLength p ++ (reported depth names.IdLength i ++ (e ++ (f ++ y)))) n.payload_length n.id_length

    in_header : drop 1 t ≡ [] → NoneCome t → NoBody t → 0 < length (take 1 t) → (byte.depth ≡ depth) × (byte.name ≡ names.Header)
    in_header z n m some =
        ends [] names.Header (take 1 t) (b ++ (c ++ (d ++ (e ++ (f ++ y))))) (front_parts depth t y) refl
        (ap (λ x. reported depth names.KindLength (take 1 x) ++ (c ++ (d ++ (e ++ (f ++ y))))) z ∙ no_lengths n ∙ no_more m) some h

    in_kind_length : NoneCome t → NoBody t → 0 < length (take 1 (drop 1 t)) → (byte.depth ≡ depth) × (byte.name ≡ names.KindLength)
    in_kind_length n m some = ends a names.KindLength (take 1 (drop 1 t)) (c ++ (d ++ (e ++ (f ++ y)))) (front_parts depth t y) refl (no_lengths n ∙ no_more m) some h

    in_payload_length : id_length_come t ≡ [] → NoBody t → 0 < length (payload_length_come t) → (byte.depth ≡ depth) × (byte.name ≡ names.PayloadLength)
    in_payload_length n m some =
        ends (a ++ b) names.PayloadLength (payload_length_come t) (d ++ (e ++ (f ++ y))) (front_parts depth t y) (simp append_assoc)
        (ap (λ i. reported depth names.IdLength i ++ (e ++ (f ++ y))) n ∙ no_more m) some h

    in_id_length : NoBody t → 0 < length (id_length_come t) → (byte.depth ≡ depth) × (byte.name ≡ names.IdLength)
    in_id_length m some = ends ((a ++ b) ++ c) names.IdLength (id_length_come t) (e ++ (f ++ y)) (front_parts depth t y) (simp append_assoc) (no_more m) some h

    in_kind : id_come t ≡ [] → content_come t ≡ [] → 0 < length (kind_come t) → (byte.depth ≡ depth) × (byte.name ≡ names.Kind)
    in_kind i m some =
        ends (((a ++ b) ++ c) ++ d) names.Kind (kind_come t) (f ++ y) (front_parts depth t y) (simp append_assoc)
        (ap (λ x. reported depth names.Id x ++ y) i ∙ none m) some h

    in_id_field : content_come t ≡ [] → 0 < length (id_come t) → (byte.depth ≡ depth) × (byte.name ≡ names.Id)
    in_id_field m some = ends ((((a ++ b) ++ c) ++ d) ++ e) names.Id (id_come t) y (front_parts depth t y) (simp append_assoc) (none m) some h

    in_payload : 0 < length y → EndsInField y byte
    in_payload some =
        let is : front_parts depth t y ≡ (((((a ++ b) ++ c) ++ d) ++ e) ++ f) ++ y = simp append_assoc in
        back (((((a ++ b) ++ c) ++ d) ++ e) ++ f) y byte some (subst (λ x. EndsInField x byte) is h)

-- ---- the octets so far, and one more
some_take : (n : ℕ) (z : List ℕ) → 0 < n → 0 < length z → 0 < length (take n z)
some_take zero z h k = absurd (omega (arith, h))
some_take (suc n) [] h k = absurd (omega (arith, k))
some_take (suc n) (b ∷ z) h k = omega arith

module _ (depth : ℕ) (byte : ByteField) where
  last_in_head : (spot : Spot) (s : List ℕ) (o : ℕ) (y : List Part) → IsOpen spot s → (content_come (s ++ o ∷ []) ≡ [] → y ≡ [])
      → EndsInField (front_parts depth (s ++ o ∷ []) y) byte → (byte.depth ≡ depth) × IsNameOf (InHead s) byte.name
  last_in_head spot [] o y p none h = in_header depth byte (o ∷ []) y none h refl (none_come (o ∷ []) refl) (no_body (o ∷ []) (drop-nil (lengths_width o))) (omega arith)
  last_in_head spot (x ∷ []) o y p none h =
      in_kind_length depth byte (x ∷ o ∷ []) y none h (none_come (x ∷ o ∷ []) refl) (no_body (x ∷ o ∷ []) (drop-nil (lengths_width x))) (omega arith)
  last_in_head spot (x ∷ k ∷ s) o y p none h =
      let z = s ++ o ∷ [] in
      let t = x ∷ k ∷ z in
      let n = length-append s (o ∷ []) in
      let l = short_head spot x (k ∷ s) p in
      let m = no_body t (drop_all (lengths_width x) z (omega (arith, n, l))) in
      elim (cases_lt (length s) (width x)) as (λ v. (byte.depth ≡ depth) × IsNameOf (InHead (x ∷ k ∷ s)) byte.name) [
        | inl a ↦ (
            let over = ap (take (id_length_width x)) (drop_all (width x) z (omega (arith, n, a))) ∙ take-nil (id_length_width x) in
            let r = in_payload_length depth byte t y none h over m (some_take (width x) z (omega (arith, a)) (omega (arith, n))) in
            (r.0, (λ u. r.1, λ u. absurd (omega (arith, a, u))))
            )
        | inr a ↦ (
            let d = length-drop (width x) z in
            let r = in_id_length depth byte t y none h m (some_take (id_length_width x) (drop (width x) z) (omega (arith, n, l, a)) (omega (arith, d, n, a))) in
            (r.0, (λ u. absurd (omega (arith, a, u)), λ u. r.1))
            )
      ]

  last_in_type : (spot : Spot) (f : HeadFields) (kind : List ℕ) (o : ℕ) (y : List Part) → IsProper spot (InType f kind) → (content_come ((octets f ++ kind) ++ o ∷ []) ≡ [] → y ≡ [])
      → EndsInField (front_parts depth ((octets f ++ kind) ++ o ∷ []) y) byte → (byte.depth ≡ depth) × (byte.name ≡ names.Kind)
  last_in_type spot f kind o y p none h =
      let t = (octets f ++ kind) ++ o ∷ [] in
      let n = length-append kind (o ∷ []) in
      let l = p.1 in
      let c = subst (Come f (kind ++ o ∷ []) [] []) (sym (type_more f kind o)) (in_type f (kind ++ o ∷ []) p.0.stands.spelled (omega (arith, n, l))) in
      let k = ap length c.kind_is in
      in_kind depth byte t y none h c.id_is c.content_is (omega (arith, k, n))

  last_in_id : (spot : Spot) (f : HeadFields) (kind id : List ℕ) (o : ℕ) (y : List Part) → IsProper spot (InId f kind id) → (content_come ((octets f ++ (kind ++ id)) ++ o ∷ []) ≡ [] → y ≡ [])
      → EndsInField (front_parts depth ((octets f ++ (kind ++ id)) ++ o ∷ []) y) byte → (byte.depth ≡ depth) × (byte.name ≡ names.Id)
  last_in_id spot f kind id o y p none h =
      let t = (octets f ++ (kind ++ id)) ++ o ∷ [] in
      let n = length-append id (o ∷ []) in
      let l = p.2 in
      let c = subst (Come f kind (id ++ o ∷ []) []) (sym (id_more f kind id o)) (in_id f kind (id ++ o ∷ []) p.0.stands.spelled p.1 (omega (arith, n, l))) in
      let k = ap length c.id_is in
      in_id_field depth byte t y none h c.content_is (omega (arith, k, n))

-- ---- the last piece
module _ (depth : ℕ) (own : List ℕ → List Part) (bytes : List ℕ) (field : Field) (octet : ℕ) (s : StandsIn bytes field octet) (byte : ByteField) where
  last_piece : EndsInField (parts_along depth own (fronts bytes)) byte → EndsInField (front_parts depth (octets_so_far field ++ octet ∷ []) (own (octets_so_far field ++ octet ∷ []))) byte
  last_piece h =
      let a = s.at in
      let spot = spot_after s.limits s.runs s.begun in
      let t = octets_so_far field ++ octet ∷ [] in
      let n = length-append (octets_so_far field) (octet ∷ []) in
      let some : 0 < length t = omega (arith, n) in
      let e : bytes ≡ a.front ++ t = s.split ∙ ap (λ x. x ++ octet ∷ []) a.split ∙ append_assoc a.front (octets_so_far field) (octet ∷ []) in
      let one = front_parts depth t (own t) in
      let is =
      ap (λ x. parts_along depth own (fronts x)) e
      ∙ parts_after depth own (all_pieces s.runs ++ s.begun) a.front t a.spelled
      ∙ ap (λ x. parts_along depth own (fronts a.front) ++ x) (ap (parts_along depth own) (fronts_begun t some (came spot field octet a.proper)) ∙ append-nil one) in
      back (parts_along depth own (fronts a.front)) one byte (some_front depth t (own t) some) (subst (λ x. EndsInField x byte) is h)

-- ---- payloads of nested messages
inner_none : (table : Table) (t : List ℕ) → content_come t ≡ [] → inner_come table t ≡ []
inner_none table t e =
    let kind = kind_in table (tnf_come t) (kind_come t) in ap (leaf_parts 1 kind) e ∙ nothing Anywhere (leaf_parts 1 kind []) (fill_leaf Anywhere 1 tt kind [])

inner_some : (table : Table) (s : List ℕ) → 0 < length s → 0 < length (inner_in table s)
inner_some table s = something Anywhere s (inner_in table s) (fill_inner Anywhere tt table s)

head_tnf : (f : HeadFields) → CanBeSpelled f → tnf_of (tnf_number (header f)) ≡ tnf_of f.tnf
head_tnf f c = ap tnf_of (header_parts f c.tnf).tnf

-- what has come of a piece up to its payload
content_here : (spot : Spot) (f : HeadFields) (kind id content : List ℕ) (o : ℕ) → IsProper spot (InPayload f kind id content)
    → Come f kind id (content ++ o ∷ []) ((octets f ++ (kind ++ (id ++ content))) ++ o ∷ [])
content_here spot f kind id content o p =
    subst (Come f kind id (content ++ o ∷ [])) (sym (content_more f kind id content o)) (come f kind id (content ++ o ∷ []) p.0.stands.spelled p.1 p.2)

one_there : (content : List ℕ) (o : ℕ) → 0 < length (content ++ o ∷ [])
one_there content o = let n = length-append content (o ∷ []) in omega (arith, n)

-- the field of an octet before the payload
abbrev IsHeadField : ℕ → ByteField → Field → Type 0
IsHeadField depth byte (InPayload f kind id content) = ⊤
IsHeadField depth byte field = (byte.depth ≡ depth) × IsNameOf field byte.name

head_field : (depth : ℕ) (own : List ℕ → List Part) → ((t : List ℕ) → content_come t ≡ [] → own t ≡ []) → (spot : Spot) (field : Field) (o : ℕ) (byte : ByteField) → IsProper spot field
    → EndsInField (front_parts depth (octets_so_far field ++ o ∷ []) (own (octets_so_far field ++ o ∷ []))) byte → IsHeadField depth byte field
head_field depth own none spot (InHead s) o byte p h = last_in_head depth byte spot s o (own (s ++ o ∷ [])) p (none (s ++ o ∷ [])) h
head_field depth own none spot (InType f kind) o byte p h =
    let t = (octets f ++ kind) ++ o ∷ [] in last_in_type depth byte spot f kind o (own t) p (none t) h
head_field depth own none spot (InId f kind id) o byte p h =
    let t = (octets f ++ (kind ++ id)) ++ o ∷ [] in last_in_id depth byte spot f kind id o (own t) p (none t) h
head_field depth own none spot (InPayload f kind id content) o byte p h = tt
head_field depth own none spot AtEnd o byte p h =
    in_header depth byte (o ∷ []) (own (o ∷ [])) (none (o ∷ [])) h refl (none_come (o ∷ []) refl) (no_body (o ∷ []) (drop-nil (lengths_width o))) (omega arith)

inner_field : (table : Table) (spot : Spot) (field : Field) (o : ℕ) (byte : ByteField) → IsProper spot field
    → EndsInField (front_parts 1 (octets_so_far field ++ o ∷ []) (inner_come table (octets_so_far field ++ o ∷ []))) byte → IsInnerField table field o byte.name
inner_field table spot (InPayload f kind id content) o byte p h =
    let t = (octets f ++ (kind ++ (id ++ content))) ++ o ∷ [] in
    let c = content_here spot f kind id content o p in
    let k = kind_in table (tnf_of f.tnf) kind in
    let s = content ++ o ∷ [] in
    let is : inner_come table t ≡ leaf_parts 1 k s = ap₂ (leaf_parts 1) (ap₂ (kind_in table) (head_tnf f p.0.stands.spelled) c.kind_is) c.content_is in
    let l = fill_leaf (λ d. d ≡ 1) 1 refl k s in
    let y = subst (λ x. 0 < length x) (sym is) (something (λ d. d ≡ 1) s (leaf_parts 1 k s) l (one_there content o)) in
    (ends_there 1 (leaf_parts 1 k s) byte l.each (subst (λ x. EndsInField x byte) is (in_payload 1 byte t (inner_come table t) (inner_none table t) h y))).1
inner_field table spot field o byte p h = (head_field 1 (inner_come table) (inner_none table) spot field o byte p h).1

inner_last : (table : Table) (s : List ℕ) (byte : ByteField) → EndsInField (inner_in table s) byte → (byte.depth ≡ 1) × IsLastInside table s byte.name
unfolding inner_in
inner_last table s byte h = (
  (ends_there 1 (inner_in table s) byte (fill_inner (λ d. d ≡ 1) refl table s).each h).0,
  λ field octet i.
      inner_field table (spot_after i.limits i.runs i.begun) field octet byte i.at.proper (last_piece 1 (inner_come table) s field octet i byte h),
)

-- ---- payloads of a message
last_by : (table : Option Table) (kind : Kind) (s : List ℕ) (byte : ByteField) → 0 < length s → EndsInField (parts_by table kind s) byte → IsLastBy table kind s byte
last_by None kind s byte n h = ends_there 0 (leaf_parts 0 (outer_kind kind) s) byte (fill_leaf (λ d. d ≡ 0) 0 refl (outer_kind kind) s).each h
last_by (Some tables.SmartPoster) kind s byte n h = inner_last tables.SmartPoster s byte h
last_by (Some tables.Request) kind [] byte n h = absurd (omega (arith, n))
last_by (Some tables.Request) kind (v ∷ []) byte n h = subst (λ x. EndsInField (reported 0 names.Version (v ∷ []) ++ x) byte) (nothing_inside tables.Request) h
last_by (Some tables.Request) kind (v ∷ o ∷ s) byte n h =
    inner_last tables.Request (o ∷ s) byte (back (reported 0 names.Version (v ∷ [])) (inner_in tables.Request (o ∷ s)) byte (inner_some tables.Request (o ∷ s) (omega arith)) h)
last_by (Some tables.Select) kind [] byte n h = absurd (omega (arith, n))
last_by (Some tables.Select) kind (v ∷ []) byte n h = subst (λ x. EndsInField (reported 0 names.Version (v ∷ []) ++ x) byte) (nothing_inside tables.Select) h
last_by (Some tables.Select) kind (v ∷ o ∷ s) byte n h =
    inner_last tables.Select (o ∷ s) byte (back (reported 0 names.Version (v ∷ [])) (inner_in tables.Select (o ∷ s)) byte (inner_some tables.Select (o ∷ s) (omega arith)) h)

outer_none : (t : List ℕ) → content_come t ≡ [] → outer_come t ≡ []
outer_none t e =
    let kind = kind_begun t in ap (payload_parts kind) e ∙ nothing Anywhere (payload_parts kind []) (fill_payload Anywhere tt tt kind [])

outer_field : (spot : Spot) (field : Field) (o : ℕ) (byte : ByteField) → IsProper spot field
    → EndsInField (front_parts 0 (octets_so_far field ++ o ∷ []) (outer_come (octets_so_far field ++ o ∷ []))) byte → IsFieldOf field o byte
outer_field spot (InPayload f kind id content) o byte p h =
    let t = (octets f ++ (kind ++ (id ++ content))) ++ o ∷ [] in
    let c = content_here spot f kind id content o p in
    let q = header_parts f p.0.stands.spelled.tnf in
    let k = kind_there f.chunked (kind_of (tnf_of f.tnf) kind) in
    let s = content ++ o ∷ [] in
    let is : outer_come t ≡ payload_parts k s =
    ap₂ payload_parts (ap₂ kind_there q.chunked (ap₂ kind_of (head_tnf f p.0.stands.spelled) c.kind_is)) c.content_is in
    let some = something Anywhere s (payload_parts k s) (fill_payload Anywhere tt tt k s) (one_there content o) in
    let y = subst (λ x. 0 < length x) (sym is) some in
    last_by (table_in k) k s byte (one_there content o) (subst (λ x. EndsInField x byte) is (in_payload 0 byte t (outer_come t) (outer_none t) h y))
outer_field spot field o byte p h = head_field 0 outer_come outer_none spot field o byte p h

-- the last field is that of the last byte
pub field_last : (bytes : List ℕ) (first byte : ByteField) → byte ≡ last_from first (placed 0 (outer_in bytes)) → IsFieldOfLast bytes byte
unfolding outer_in
field_last bytes first byte is field octet s =
    let n = ap length s.split ∙ length-append s.front (octet ∷ []) in
    let all = outer_in bytes in
    let h = subst (EndsInField all) (sym is) (last_ends 0 all first (something Anywhere bytes all (fill_outer Anywhere tt tt bytes) (omega (arith, n)))) in
    outer_field (spot_after s.limits s.runs s.begun) field octet byte s.at.proper (last_piece 0 outer_come bytes field octet s byte h)
