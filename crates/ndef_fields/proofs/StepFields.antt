-- The fields of a piece of a walk, and those of the pieces after it.
use Rattle.std.proofs.Common.{◌≡◌, ℕ, zero, suc, ◌+◌, ◌-◌, ◌*◌, ◌^◌, ◌<◌, ◌≤◌, Option, Some, None, refl, sym, ◌∙◌, ap, ap₂, subst, arith, inl, inr, List, [], ◌∷◌, ◌++◌, length, length-append, length-drop, append_assoc, take, drop}
use Rattle.std.specs.Prelude.{slice_index, unwrap_or}
use Rattle.std.proofs.lemmas.Bool.{cases_lt}
use Rattle.std.proofs.lemmas.List.{append-nil, nil_from_length, take-append-drop}
use Rattle.ndef_format.specs.Kinds.{kind_of, outer_kind}
use Rattle.ndef_format.specs.HeadReasons.{is_set, tnf_number}
use Rattle.ndef_format.specs.Records.{tnf_of}
use Rattle.ndef_format.specs.Nested.{kind_in, table_in, table_of}
use Rattle.ndef_format.specs.declared.kind.Kind.{Kind}
use Rattle.ndef_format.specs.declared.kind.Kind.TheVariants as kinds
use Rattle.ndef_format.specs.declared.table.Table.{Table}
use Rattle.ndef_format.specs.declared.table.Table.TheVariants.{SmartPoster}
use Rattle.ndef_piece.specs.Come.{HasParts}
use Rattle.ndef_piece.specs.Steps.{HasPlaces, IsNextStep, inner_by, left, version_length}
use Rattle.ndef_piece.specs.declared.front.PieceFront.{PieceFront}
use Rattle.ndef_piece.specs.declared.walk.Walk.{Walk}
use Rattle.ndef_piece.specs.declared.walk.WalkStep.{WalkStep}
use Rattle.ndef_fields.specs.declared.field.Field.{Field}
use Rattle.ndef_fields.specs.declared.inside.Inside.{Inside}
use Rattle.ndef_fields.specs.declared.name.FieldName.{FieldName}
use Rattle.ndef_fields.specs.declared.name.FieldName.TheVariants as names
use Rattle.ndef_fields.specs.declared.step_fields.StepFields.{StepFields}
use Rattle.ndef_fields.specs.Fronts.{content_come, front_parts, inner_come, kind_begun, kind_come, tnf_come}
use Rattle.ndef_fields.specs.Lasts.{kind_there}
use Rattle.ndef_fields.specs.Parts.{Part, joined, placed, reported}
use Rattle.ndef_fields.specs.Payloads.{stage_of}
use Rattle.ndef_fields.specs.Stages.{stage_parts, stage_rank}
use Rattle.ndef_fields.specs.Walks.{HasRoom, IsInsideStep, IsOuterInside, IsPart, IsSound, fields_left, head_left, head_name, head_octets, inner_in, inside_by, inside_parts, outer_come, outer_in, parts_along, parts_by, payload_parts, stage_by, step_parts, step_rank, walk_parts}
use Rattle.ndef_fields.proofs.Filled.{Anywhere, Fill, fill_append, fill_front, fill_leaf, fill_one, joined_both, leaf_staged, reported_joined}
use Rattle.ndef_fields.proofs.Fronts.{front_after, head_front}
use Rattle.ndef_fields.proofs.Steps.{take_least}

-- ---- places
pub nothing_inside : (table : Table) → inner_in table [] ≡ []
unfolding inner_in
nothing_inside table = refl

pub nothing_outside : outer_in [] ≡ []
unfolding outer_in
nothing_outside = refl

-- ---- payloads
-- the fields of a payload, and the message that it holds
split : (table : Option Table) (kind : Kind) (s : List ℕ)
    → parts_by table kind s ≡ stage_parts 0 (stage_by table kind) (inside_by table s) ++ inner_in (unwrap_or table SmartPoster) (inner_by table s)
split (Some table) kind s = refl
split None kind s =
    let parts = stage_parts 0 (stage_of (outer_kind kind)) s in
    leaf_staged 0 (outer_kind kind) s ∙ sym (append-nil parts) ∙ ap (λ x. parts ++ x) (sym (nothing_inside SmartPoster))

-- all octets of a payload are of the one or the other
octets_are : (table : Option Table) (s : List ℕ) → inside_by table s ++ inner_by table s ≡ s
octets_are (Some table) s = take-append-drop (version_length table) s
octets_are None s = append-nil s

inside_fill : (table : Option Table) (kind : Kind) (s : List ℕ) → Fill Anywhere (inside_by table s) (stage_parts 0 (stage_by table kind) (inside_by table s))
inside_fill (Some table) kind s = fill_one Anywhere 0 tt names.Version (take (version_length table) s)
inside_fill None kind s = subst (Fill Anywhere s) (leaf_staged 0 (outer_kind kind) s) (fill_leaf Anywhere 0 tt (outer_kind kind) s)

small_leaf : (kind : Kind) → stage_rank (stage_of kind) ≤ 803
small_leaf kinds.Text = omega arith
small_leaf _ = omega arith

small : (table : Option Table) (kind : Kind) → stage_rank (stage_by table kind) ≤ 803
small (Some table) kind = omega arith
small None kind = small_leaf (outer_kind kind)

-- ---- the first octet of a piece
first_is : (octets rest s : List ℕ) → s ≡ octets ++ rest → 0 < length octets → slice_index s 0 ≡ slice_index octets 0
first_is [] rest s e h = absurd (omega (arith, h))
first_is (b ∷ octets) rest s e h = ap (λ x. slice_index x 0) e

-- ---- the next piece

-- the fields of the next piece, with those of the pieces after it
pub record IsNext (w : Walk) (s : StepFields) (next : Walk) (t : StepFields) : Type 0 where
  pub same : fields_left w s ≡ fields_left next t
  pub sound : IsSound next t
  pub fewer : left next * 1024 + step_rank t < left w * 1024 + step_rank s

-- the fields of the piece of a walk
pub record IsStepFields (step : WalkStep) (t : StepFields) : Type 0 where
  pub at : t.at ≡ step.at
  pub depth : t.depth ≡ step.depth
  pub left : t.left ≡ 6
  pub piece : t.piece ≡ step.piece
  pub outer : step.depth ≡ 0 → IsOuterInside step.kind step.piece.payload.now t.inside
  pub stage : step.depth ≡ 1 → t.inside.stage ≡ stage_of step.kind
  pub octets : step.depth ≡ 1 → t.inside.octets.now ≡ step.piece.payload.now

some_octets : (octets rest s : List ℕ) → s ≡ octets ++ rest → length rest < length s → 0 < length octets
some_octets octets rest s e l = let n = ap length e ∙ length-append octets rest in omega (arith, n, l)

-- the parts of a piece, of which these are those of its payload
begun_parts : (depth : ℕ) (step : WalkStep) (t : StepFields) → IsStepFields step t → step.depth ≡ depth → HasParts step.piece.octets.now step.piece
    → step_parts t ≡ front_parts depth step.piece.octets.now (inside_parts depth t.inside)
begun_parts depth step t i d h = rw (i.depth, d, i.left, i.piece) (head_front depth step.piece (inside_parts depth t.inside) h)

module _ (w : Walk) (s : StepFields) (step : WalkStep) (next : Walk) (t : StepFields)
    (sound : IsSound w s) (over : step_parts s ≡ []) (n : IsNextStep w step next) (i : IsStepFields step t) where
  -- what is known once the parts are
  from_parts : walk_parts w ≡ step_parts t ++ walk_parts next → length (joined (step_parts t)) + w.at ≡ next.at → stage_rank t.inside.stage ≤ 803 → IsNext w s next t
  from_parts parts size rank =
      let o = ap (λ x. length (joined x)) over in
      let after = sound.after in
      let at : s.at ≡ t.at = let a = i.at in let b = n.at in omega (arith, o, after, a, b) in
      let places = n.places in
      let was = sound.places in
      let fewer = n.fewer in
      let l = i.left in
      record {
        same = ap₂ placed at (ap (λ x. x ++ walk_parts w) over ∙ parts);
        sound = record { places = omega (arith, places, was); after = omega (arith, o, after, at, size) };
        fewer = omega (arith, fewer, l, rank);
      }

  inner_next : 0 < length w.inner.now → IsNext w s next t
  unfolding inner_in
  inner_next some =
      let q = n.inner some in
      let f = step.piece in
      let front = q.front in
      let h = front.parts in
      let octets = f.octets.now in
      let less = n.fewer in
      let kept = ap length q.outer in
      let m : length next.inner.now < length w.inner.now = omega (arith, less, kept) in
      let nonempty = some_octets octets next.inner.now w.inner.now front.joined m in
      let header : f.header ≡ slice_index octets 0 = front.header ∙ first_is octets next.inner.now w.inner.now front.joined nonempty in
      let kind : step.kind ≡ kind_in w.table (tnf_come octets) (kind_come octets) =
      q.kind ∙ ap₂ (λ x k. kind_in w.table (tnf_of (tnf_number x)) k) header h.kind in
      let stage = i.stage q.depth in
      let inside : inside_parts 1 t.inside ≡ inner_come w.table octets =
      ap₂ (stage_parts 1) (stage ∙ ap stage_of kind) (i.octets q.depth ∙ h.payload) ∙ sym (leaf_staged 1 (kind_in w.table (tnf_come octets) (kind_come octets)) (content_come octets)) in
      let mine : step_parts t ≡ front_parts 1 octets (inner_come w.table octets) = begun_parts 1 step t i q.depth h ∙ ap (front_parts 1 octets) inside in
      let own = fill_leaf Anywhere 1 tt (kind_in w.table (tnf_come octets) (kind_come octets)) (content_come octets) in
      let size = ap length (ap joined mine ∙ (fill_front Anywhere 1 tt octets (inner_come w.table octets) own).octets_are) in
      let after = q.after in
      let rank = small_leaf step.kind in
      let r = ap stage_rank stage in
      from_parts
      (
      ap₂ (λ x y. parts_along 1 (inner_come w.table) x ++ outer_in y) (front.first some) (sym q.outer)
      ∙ append_assoc (front_parts 1 octets (inner_come w.table octets)) (inner_in w.table next.inner.now) (outer_in next.outer.now)
      ∙ ap₂ (λ x y. x ++ (inner_in y next.inner.now ++ outer_in next.outer.now)) (sym mine) (sym q.table)
      )
      (omega (arith, size, after)) (omega (arith, rank, r))

  outer_next : w.inner.now ≡ [] → IsNext w s next t
  unfolding outer_in
  outer_next none =
      let q = n.outer none in
      let f = step.piece in
      let front = q.front in
      let h = front.parts in
      let octets = f.octets.now in
      let kind = step.kind in
      let payload = f.payload.now in
      let a = n.fewer in
      let b = ap length none in
      let places = n.places in
      let after = q.after in
      let j = ap length front.joined ∙ length-append octets next.outer.now in
      let nonempty : 0 < length octets = omega (arith, a, b, places, after, j) in
      let some : 0 < length w.outer.now = omega (arith, j, nonempty) in
      let header : f.header ≡ slice_index octets 0 = front.header ∙ first_is octets next.outer.now w.outer.now front.joined nonempty in
      let begun : kind ≡ kind_begun octets =
      q.kind ∙ ap₂ (λ x k. kind_there (is_set 5 x) (kind_of (tnf_of (tnf_number x)) k)) header h.kind in
      let o = i.outer q.depth in
      let inside : inside_parts 0 t.inside ≡ stage_parts 0 (stage_by (table_in kind) kind) (inside_by (table_in kind) payload) = ap₂ (stage_parts 0) o.stage o.octets in
      let inner : inner_in next.table next.inner.now ≡ inner_in (table_of kind) (inner_by (table_in kind) payload) = ap₂ inner_in q.table q.inner in
      let own : outer_come octets ≡ inside_parts 0 t.inside ++ inner_in next.table next.inner.now =
      ap₂ payload_parts (sym begun) (sym h.payload) ∙ split (table_in kind) kind payload ∙ sym (ap₂ (λ x y. x ++ y) inside inner) in
      let mine = begun_parts 0 step t i q.depth h in
      -- the octets of its own fields
      let more = reported 0 names.Payload next.inner.now in
      let filled : Fill Anywhere (content_come octets) (inside_parts 0 t.inside ++ more) =
      subst (λ x. Fill Anywhere x (inside_parts 0 t.inside ++ more)) (octets_are (table_in kind) payload ∙ h.payload)
      (rw (inside, q.inner)
      (fill_append Anywhere (inside_by (table_in kind) payload) (inner_by (table_in kind) payload) (stage_parts 0 (stage_by (table_in kind) kind) (inside_by (table_in kind) payload))
      (reported 0 names.Payload (inner_by (table_in kind) payload)) (inside_fill (table_in kind) kind payload) (fill_one Anywhere 0 tt names.Payload (inner_by (table_in kind) payload)))) in
      let whole = ap length (sym (joined_both (front_parts 0 octets (inside_parts 0 t.inside)) more)
      ∙ ap joined (front_after 0 octets (inside_parts 0 t.inside) more)
      ∙ (fill_front Anywhere 0 tt octets (inside_parts 0 t.inside ++ more) filled).octets_are) in
      let cut = length-append (joined (front_parts 0 octets (inside_parts 0 t.inside))) (joined (reported 0 names.Payload next.inner.now)) in
      let rest = ap length (reported_joined 0 names.Payload next.inner.now) in
      let size = ap (λ x. length (joined x)) mine in
      let rank = small (table_in kind) kind in
      let r = ap stage_rank o.stage in
      from_parts
      (
      ap₂ (λ x y. x ++ parts_along 0 outer_come y) (ap (inner_in w.table) none ∙ nothing_inside w.table) (front.first some)
      ∙ ap (λ x. front_parts 0 octets x ++ outer_in next.outer.now) own
      ∙ ap (λ x. x ++ outer_in next.outer.now) (sym (front_after 0 octets (inside_parts 0 t.inside) (inner_in next.table next.inner.now)))
      ∙ append_assoc (front_parts 0 octets (inside_parts 0 t.inside)) (inner_in next.table next.inner.now) (outer_in next.outer.now)
      ∙ ap (λ x. x ++ walk_parts next) (sym mine)
      )
      (omega (arith, whole, cut, rest, size, after)) (omega (arith, rank, r))

  pub next_piece : IsNext w s next t
  next_piece =
      elim (cases_lt 0 (length w.inner.now)) as (λ v. IsNext w s next t) [
        | inl l ↦ inner_next l
        | inr l ↦ outer_next (nil_from_length w.inner.now (omega (arith, l)))
      ]

-- ---- where none is left
pub none_left : (w : Walk) (s : StepFields) → step_parts s ≡ [] → left w ≡ 0 → fields_left w s ≡ []
none_left w s over none =
    let i = nil_from_length w.inner.now (omega (arith, none)) in
    let o = nil_from_length w.outer.now (omega (arith, none)) in
    ap (placed s.at) (ap₂ (λ x y. x ++ y) over (ap₂ (λ x y. x ++ y) (ap (inner_in w.table) i ∙ nothing_inside w.table) (ap outer_in o ∙ nothing_outside)))

-- ---- the first field

-- the fields of a payload, before the message that it holds
pub record IsPayloadStep (kind : Kind) (payload : List ℕ) (t : StepFields) : Type 0 where
  pub at : t.at ≡ 0
  pub depth : t.depth ≡ 0
  pub left : t.left ≡ 0
  pub inside : IsOuterInside kind payload t.inside

payload_step : (kind : Kind) (payload : List ℕ) (t : StepFields) → IsPayloadStep kind payload t
    → step_parts t ≡ stage_parts 0 (stage_by (table_in kind) kind) (inside_by (table_in kind) payload)
payload_step kind payload t i = rw (i.depth, i.left, i.inside.stage, i.inside.octets) refl

-- these are the fields that are left
pub record AreLeft (w : Walk) (t : StepFields) (fields : List Field) : Type 0 where
  pub left_is : fields_left w t ≡ fields
  pub sound : IsSound w t

pub message_left : (w : Walk) (t : StepFields) (bytes : List ℕ) → IsPayloadStep kinds.Other [] t → w.outer.now ≡ bytes → w.inner.now ≡ [] → w.at ≡ 0 → HasPlaces w
    → AreLeft w t (placed 0 (outer_in bytes))
message_left w t bytes i outer inner at places =
    let none = payload_step kinds.Other [] t i in
    let n = ap (λ x. length (joined x)) none in
    let a = i.at in
    record {
      left_is = ap₂ placed i.at (ap₂ (λ x y. x ++ y) none (ap₂ (λ x y. x ++ y) (ap (inner_in w.table) inner ∙ nothing_inside w.table) (ap outer_in outer)));
      sound = record { places = places; after = omega (arith, n, a, at) };
    }

pub payload_left : (w : Walk) (t : StepFields) (kind : Kind) (payload : List ℕ) → IsPayloadStep kind payload t → w.inner.now ≡ inner_by (table_in kind) payload
    → w.outer.now ≡ [] → w.table ≡ table_of kind → w.at + length w.inner.now ≡ length payload → HasPlaces w
    → AreLeft w t (placed 0 (payload_parts kind payload))
payload_left w t kind payload i inner outer table at places =
    let mine = payload_step kind payload t i in
    let n = ap (λ x. length (joined x)) mine in
    let whole = ap length (ap (λ x. x ++ inner_by (table_in kind) payload) (inside_fill (table_in kind) kind payload).octets_are ∙ octets_are (table_in kind) payload) in
    let cut = length-append (joined (stage_parts 0 (stage_by (table_in kind) kind) (inside_by (table_in kind) payload))) (inner_by (table_in kind) payload) in
    let rest = ap length inner in
    let a = i.at in
    record {
      left_is =
          ap₂ placed i.at
          (
          ap₂ (λ x y. x ++ (inner_in w.table w.inner.now ++ y)) mine (ap outer_in outer ∙ nothing_outside)
          ∙ ap (λ x. stage_parts 0 (stage_by (table_in kind) kind) (inside_by (table_in kind) payload) ++ x) (append-nil (inner_in w.table w.inner.now) ∙ ap₂ inner_in table inner)
          ∙ sym (split (table_in kind) kind payload)
          );
      sound = record { places = places; after = omega (arith, n, whole, cut, rest, at, a) };
    }

-- ---- the octets before a nested message
pub cut_front : (table : Table) (s x : List ℕ) (n : ℕ) → x ≡ drop (version_length table) s → n ≡ length s - length x → take n s ≡ take (version_length table) s
cut_front table s x n e h =
    let l = ap length e ∙ length-drop (version_length table) s in
    take_least (version_length table) n s (omega (arith, l, h))

-- ---- the next part of a piece
head_one : (depth left : ℕ) (f : PieceFront) (payload : List Part) → 0 < left
    → head_left depth left f payload ≡ reported depth (head_name (left - 1)) (head_octets (left - 1) f) ++ head_left depth (left - 1) f payload
head_one depth zero f payload h = absurd (omega (arith, h))
head_one depth (suc n) f payload h =
    let e : n ≡ suc n - 1 = omega arith in
    ap (λ k. reported depth (head_name k) (head_octets k f) ++ head_left depth k f payload) e

room_for : (s : StepFields) (name : FieldName) (octets : List ℕ) (rest : List Part) → step_parts s ≡ reported s.depth name octets ++ rest → HasRoom s → s.at + length octets < 2 ^ 64
room_for s name octets rest e h =
    let n = ap length (ap joined e ∙ joined_both (reported s.depth name octets) rest ∙ ap (λ x. x ++ joined rest) (reported_joined s.depth name octets)) in
    let m = length-append octets (joined rest) in
    omega (arith, n, m, h)

pub head_room : (s : StepFields) (k : ℕ) (octets : List ℕ) → 0 < s.left → k ≡ s.left - 1 → octets ≡ head_octets k s.piece → HasRoom s → s.at + length octets < 2 ^ 64
head_room s k octets some e o h =
    let x = inside_parts s.depth s.inside in
    room_for s (head_name k) octets (head_left s.depth k s.piece x)
    (head_one s.depth s.left s.piece x some ∙ ap₂ (λ n y. reported s.depth (head_name n) y ++ head_left s.depth n s.piece x) (sym e) (ap (λ n. head_octets n s.piece) (sym e) ∙ sym o)) h

pub head_is_part : (s t : StepFields) (field : Field) (name : FieldName) (k : ℕ) (octets : List ℕ) → 0 < s.left → k ≡ s.left - 1 → name ≡ head_name k → octets ≡ head_octets k s.piece
    → field ≡ record { at = s.at; length = length octets; depth = s.depth; name = name } → t ≡ record s { left = k; at = s.at + length octets } → IsPart s t field
head_is_part s t field name k octets some e n o f a =
    let x = inside_parts s.depth s.inside in
    let rank = ap step_rank a in
    record {
      octets = octets;
      field_is = f ∙ ap (λ m. record { at = s.at; length = length octets; depth = s.depth; name = m }) (sym (ap (λ g. g.name) f));
      at = ap (λ u. u.at) a;
      parts =
          head_one s.depth s.left s.piece x some
          ∙ ap₂ (λ m y. reported s.depth (head_name m) y ++ head_left s.depth m s.piece x) (sym e) (ap (λ m. head_octets m s.piece) (sym e) ∙ sym o)
          ∙ ap₂ (λ m y. reported s.depth m octets ++ y) (sym n ∙ sym (ap (λ g. g.name) f)) (sym (ap step_parts a));
      fewer = omega (arith, rank, e, some);
    }

only_inside : (s : StepFields) → s.left ≡ 0 → step_parts s ≡ inside_parts s.depth s.inside
only_inside s e = ap (λ n. head_left s.depth n s.piece (inside_parts s.depth s.inside)) e

pub inside_room : (s : StepFields) (name : FieldName) (n : ℕ) (j : Inside) → s.left ≡ 0 → IsInsideStep s.inside name n j → HasRoom s → s.at + n < 2 ^ 64
inside_room s name n j e i h =
    let l = i.size_is in
    let r = room_for s name i.octets (inside_parts s.depth j) (only_inside s e ∙ i.parts s.depth) h in
    omega (arith, l, r)
