-- The parts of some octets: all of these are in them, none is empty, and they are at these depths.
use Rattle.std.proofs.Common.{◌≡◌, ℕ, zero, suc, ◌+◌, ◌-◌, ◌<◌, ◌≤◌, Bool, true, false, refl, sym, ◌∙◌, ap, ap₂, subst, arith, Option, Some, None, List, [], ◌∷◌, ◌++◌, length, take, drop, length-append}
use Rattle.std.specs.Prelude.{⊤, slice_index}
use Rattle.std.specs.List.{AllByRecursion}
use Rattle.std.proofs.lemmas.Grind.{flat_map-append}
use Rattle.std.proofs.lemmas.List.{append-nil, drop-drop, take-append-drop}
use Rattle.ndef_value.specs.ListLaws.{all_append}
use Rattle.ndef_format.specs.HeadReasons.{width}
use Rattle.ndef_format.specs.Kinds.{outer_kind}
use Rattle.ndef_format.specs.Nested.{kind_in, table_in}
use Rattle.ndef_format.specs.Texts.{is_wide, code_length}
use Rattle.ndef_format.specs.declared.kind.Kind.{Kind}
use Rattle.ndef_format.specs.declared.kind.Kind.TheVariants as kinds
use Rattle.ndef_format.specs.declared.profile.Profile.TheVariants.{Standard}
use Rattle.ndef_format.specs.declared.table.Table.{Table}
use Rattle.ndef_lang.specs.declared.leaf.Stage.{Stage as Layout}
use Rattle.ndef_lang.specs.declared.leaf.Stage.TheVariants as layouts
use Rattle.ndef_lang.specs.declared.leaf.Leaf.{Leaf}
use Rattle.ndef_lang.specs.declared.leaf.Leaf.TheVariants.{Field}
use Rattle.ndef_lang.specs.Machine.Leaf.{leaf_of}
use Rattle.ndef_piece.specs.Come.{body_given, fronts, fronts_from, id_given, id_length_width, lengths_width, size_come}
use Rattle.ndef_piece.specs.Steps.{version_length}
use Rattle.ndef_fields.specs.declared.name.FieldName.{FieldName}
use Rattle.ndef_fields.specs.declared.name.FieldName.TheVariants as names
use Rattle.ndef_fields.specs.Fronts.{content_come, front_parts, id_come, id_length_come, inner_come, kind_begun, kind_come, payload_length_come, tnf_come}
use Rattle.ndef_fields.specs.Parts.{Part, reported, joined}
use Rattle.ndef_fields.specs.Payloads.{mark_length, encoded_parts, language_parts, counted_parts, references_parts, auxiliary_parts, first_of, last_of, inside_of, stage_of, leaf_parts}
use Rattle.ndef_fields.specs.Stages.{next_parts, parts_from, stage_parts}
use Rattle.ndef_fields.specs.Walks.{inner_in, outer_come, outer_in, parts_along, parts_by, payload_parts}

-- the octets of the parts are these, and each part has some and is at one of these depths
pub record Fill (Deep : ℕ → Type 0) (s : List ℕ) (parts : List Part) : Type 0 where
  pub octets_are : joined parts ≡ s
  pub each : AllByRecursion (λ part. (0 < length part.octets) × Deep part.depth) parts

-- at any depth
abbrev pub Anywhere : ℕ → Type 0
Anywhere depth = ⊤

pub joined_both : (xs ys : List Part) → joined (xs ++ ys) ≡ joined xs ++ joined ys
joined_both = flat_map-append (λ part. part.octets)

pub reported_joined : (depth : ℕ) (name : FieldName) (s : List ℕ) → joined (reported depth name s) ≡ s
reported_joined depth name [] = refl
reported_joined depth name (b ∷ s) = append-nil (b ∷ s)

-- the parts of a payload are those of its layout
pub leaf_staged : (depth : ℕ) (kind : Kind) (s : List ℕ) → leaf_parts depth kind s ≡ stage_parts depth (stage_of kind) s
leaf_staged depth kinds.Text s = refl
leaf_staged depth _ s = refl

drop_one : (n b : ℕ) (s : List ℕ) → 0 < n → drop (n - 1) s ≡ drop n (b ∷ s)
drop_one zero b s h = absurd (omega (arith, h))
drop_one (suc n) b s h = let e : suc n - 1 ≡ n = omega arith in ap (λ k. drop k s) e

-- a piece has its lengths
pub least : (s : List ℕ) → 2 + lengths_width (slice_index s 0) ≤ size_come s
unfolding size_come
least s = omega arith

module _ (Deep : ℕ → Type 0) where
  pub fill_none : Fill Deep [] []
  fill_none = record { octets_are = refl; each = tt }

  pub fill_append : (s t : List ℕ) (xs ys : List Part) → Fill Deep s xs → Fill Deep t ys → Fill Deep (s ++ t) (xs ++ ys)
  fill_append s t xs ys a b = record {
    octets_are = joined_both xs ys ∙ ap₂ (λ x y. x ++ y) a.octets_are b.octets_are;
    each = all_append (λ part. (0 < length part.octets) × Deep part.depth) xs ys a.each b.each;
  }

  -- there are none where there are no octets, and some where there are
  pub nothing : (parts : List Part) → Fill Deep [] parts → parts ≡ []
  nothing [] f = refl
  nothing (part ∷ parts) f =
      absurd (let n = ap length f.octets_are in let m = length-append part.octets (joined parts) in let some = f.each.0.0 in omega (arith, n, m, some))

  pub something : (s : List ℕ) (parts : List Part) → Fill Deep s parts → 0 < length s → 0 < length parts
  something s [] f n = absurd (let m = ap length f.octets_are in omega (arith, m, n))
  something s (part ∷ parts) f n = omega arith

  module _ (depth : ℕ) (here : Deep depth) where
    pub fill_one : (name : FieldName) (s : List ℕ) → Fill Deep s (reported depth name s)
    fill_one name [] = fill_none
    fill_one name (b ∷ s) = record { octets_are = append-nil (b ∷ s); each = ((omega arith, here), tt) }

    -- a field of that many octets, and the parts of those after them
    pub fill_cut : (name : FieldName) (n : ℕ) (s : List ℕ) (parts : List Part) → Fill Deep (drop n s) parts → Fill Deep s (reported depth name (take n s) ++ parts)
    fill_cut name n s parts f =
        subst (λ x. Fill Deep x (reported depth name (take n s) ++ parts)) (take-append-drop n s)
        (fill_append (take n s) (drop n s) (reported depth name (take n s)) parts (fill_one name (take n s)) f)

    -- ---- payloads
    fill_encoded : (wide : Bool) (s : List ℕ) → Fill Deep s (encoded_parts depth wide s)
    fill_encoded false s = fill_one names.Text s
    fill_encoded true s = fill_cut names.Mark (mark_length s) s _ (fill_one names.Text (drop (mark_length s) s))

    fill_language : (n : ℕ) (wide : Bool) (s : List ℕ) → Fill Deep s (language_parts depth n wide s)
    fill_language n wide s = fill_cut names.Language n s (encoded_parts depth wide (drop n s)) (fill_encoded wide (drop n s))

    fill_counted : (size name : FieldName) (next : List ℕ → List Part) → ((t : List ℕ) → Fill Deep t (next t)) → (s : List ℕ) → Fill Deep s (counted_parts depth size name next s)
    fill_counted size name next h s =
        let n = slice_index s 0 in
        fill_cut size 1 s _ (fill_cut name n (drop 1 s) (next (drop n (drop 1 s))) (h (drop n (drop 1 s))))

    fill_references : (n : ℕ) (s : List ℕ) → Fill Deep s (references_parts depth n s)
    fill_references zero s = fill_one names.AfterAuxiliary s
    fill_references (suc n) s = fill_counted names.AuxiliaryLength names.Auxiliary (references_parts depth n) (fill_references n) s

    fill_auxiliary : (s : List ℕ) → Fill Deep s (auxiliary_parts depth s)
    fill_auxiliary s = fill_cut names.AuxiliaryCount 1 s _ (fill_references (slice_index s 0) (drop 1 s))

    -- from a stage of the layout on
    fill_next : (next : Layout) (last : FieldName) (s : List ℕ) → Fill Deep s (next_parts depth next last s)
    fill_next layouts.Utf16 last s = fill_encoded true s
    fill_next layouts.Status last s = fill_cut names.Status 1 s _ (fill_language (code_length (slice_index s 0)) (is_wide (slice_index s 0)) (drop 1 s))
    fill_next (layouts.UriCode profile) last s = fill_cut names.UriCode 1 s _ (fill_one names.UriRest (drop 1 s))
    fill_next layouts.ErrorReason last s = fill_cut names.ErrorReason 1 s _ (fill_one names.ErrorData (drop 1 s))
    fill_next layouts.CarrierKindLength last s =
        fill_counted names.CarrierKindLength names.CarrierKind (reported depth names.CarrierData) (fill_one names.CarrierData) s
    fill_next layouts.ReferenceLength last s = fill_counted names.ReferenceLength names.Reference (auxiliary_parts depth) fill_auxiliary s
    fill_next layouts.AuxiliaryCount last s = fill_auxiliary s
    fill_next (layouts.References count) last s = fill_references count s
    fill_next _ last s = fill_one last s

    fill_field : (left : ℕ) (name : FieldName) (next : Layout) (last : FieldName) (s : List ℕ) → Fill Deep s (parts_from depth left name next last s)
    fill_field left name layouts.End last s = fill_one last s
    fill_field left name next last s = fill_cut name left s _ (fill_next next last (drop left s))

    fill_inside : (leaf : Leaf) (name last : FieldName) (s : List ℕ) → Fill Deep s (stage_parts depth (inside_of leaf name last) s)
    fill_inside (Field left class next) name last s = fill_field left name next last s
    fill_inside _ name last s = fill_one last s

    pub fill_leaf : (kind : Kind) (s : List ℕ) → Fill Deep s (leaf_parts depth kind s)
    fill_leaf kind s = subst (Fill Deep s) (sym (leaf_staged depth kind s)) (fill_inside (leaf_of kind Standard) (first_of kind) (last_of kind) s)

    -- ---- a front of a piece
    pub fill_front : (s : List ℕ) (payload : List Part) → Fill Deep (content_come s) payload → Fill Deep s (front_parts depth s payload)
    fill_front s payload f =
        let h = slice_index s 0 in
        let k = slice_index s 1 in
        let tail = drop 2 s in
        let body = body_given h tail in
        let i = id_given h tail in
        let after_id = reported depth names.Id (id_come s) ++ payload in
        let after_kind = reported depth names.Kind (kind_come s) ++ after_id in
        let after_there = reported depth names.IdLength (id_length_come s) ++ after_kind in
        let after_length = reported depth names.PayloadLength (payload_length_come s) ++ after_there in
        let a = fill_cut names.Id i (drop k body) payload (subst (λ x. Fill Deep x payload) (sym (drop-drop i k body)) f) in
        let b = fill_cut names.Kind k body after_id a in
        let c =
        fill_cut names.IdLength (id_length_width h) (drop (width h) tail) after_kind
        (subst (λ x. Fill Deep x after_kind) (sym (drop-drop (id_length_width h) (width h) tail)) b) in
        let d = fill_cut names.PayloadLength (width h) tail after_there c in
        fill_cut names.Header 1 s (reported depth names.KindLength (take 1 (drop 1 s)) ++ after_length)
        (fill_cut names.KindLength 1 (drop 1 s) after_length (subst (λ x. Fill Deep x after_length) (sym (drop-drop 1 1 s)) d))

    -- ---- what has come of pieces
    module _ (own : List ℕ → List Part) (filled : (s : List ℕ) → Fill Deep (content_come s) (own s)) where
      fill_from : (skip : ℕ) (s : List ℕ) → Fill Deep (drop skip s) (parts_along depth own (fronts_from skip s))
      fill_from zero [] = fill_none
      fill_from (suc skip) [] = fill_none
      fill_from zero (b ∷ s) =
          let n = size_come (b ∷ s) in
          let x = take n (b ∷ s) in
          let parts = front_parts depth x (own x) ++ parts_along depth own (fronts_from (n - 1) s) in
          let e : x ++ drop (n - 1) s ≡ b ∷ s = ap (λ y. x ++ y) (drop_one n b s (let l = least (b ∷ s) in omega (arith, l))) ∙ take-append-drop n (b ∷ s) in
          subst (λ y. Fill Deep y parts) e
          (fill_append x (drop (n - 1) s) (front_parts depth x (own x)) (parts_along depth own (fronts_from (n - 1) s)) (fill_front x (own x) (filled x)) (fill_from (n - 1) s))
      fill_from (suc skip) (b ∷ s) = fill_from skip s

      pub fill_along : (s : List ℕ) → Fill Deep s (parts_along depth own (fronts s))
      fill_along s = fill_from 0 s

-- ---- messages
module _ (Deep : ℕ → Type 0) (inside : Deep 1) where
  pub fill_inner : (table : Table) (s : List ℕ) → Fill Deep s (inner_in table s)
  unfolding inner_in
  fill_inner table s =
      fill_along Deep 1 inside (inner_come table) (λ t. fill_leaf Deep 1 inside (kind_in table (tnf_come t) (kind_come t)) (content_come t)) s

  module _ (outside : Deep 0) where
    fill_by : (table : Option Table) (kind : Kind) (s : List ℕ) → Fill Deep s (parts_by table kind s)
    fill_by (Some table) kind s =
        fill_cut Deep 0 outside names.Version (version_length table) s (inner_in table (drop (version_length table) s)) (fill_inner table (drop (version_length table) s))
    fill_by None kind s = fill_leaf Deep 0 outside (outer_kind kind) s

    pub fill_payload : (kind : Kind) (s : List ℕ) → Fill Deep s (payload_parts kind s)
    fill_payload kind = fill_by (table_in kind) kind

    pub fill_outer : (s : List ℕ) → Fill Deep s (outer_in s)
    unfolding outer_in
    fill_outer s = fill_along Deep 0 outside outer_come (λ t. fill_payload (kind_begun t) (content_come t)) s
