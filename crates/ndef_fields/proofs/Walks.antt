-- The parts of pieces, by what has come of each.
use Rattle.std.proofs.Common.{◌≡◌, ℕ, zero, suc, ◌+◌, ◌<◌, ◌≤◌, Bool, refl, sym, ◌∙◌, ap, ap₂, subst, arith, Option, Some, None, inl, inr, List, [], ◌∷◌, ◌++◌, length, drop, append_assoc, length-append}
use Rattle.std.specs.Prelude.{slice_index}
use Rattle.std.specs.List.{AllByRecursion}
use Rattle.std.proofs.lemmas.Bool.{cases_lt}
use Rattle.std.proofs.lemmas.List.{append-nil}
use Rattle.ndef_value.specs.ListLaws.{octets_back}
use Rattle.ndef_value.specs.SliceLaws.{octets_drop}
use Rattle.ndef_format.specs.Records.{AreOctets, Piece, SpellsPiece, fields, tnf_of}
use Rattle.ndef_format.specs.Messages.{SpellsPieces}
use Rattle.ndef_format.specs.Kinds.{kind_of}
use Rattle.ndef_format.specs.Nested.{kind_in, table_in}
use Rattle.ndef_format.specs.declared.kind.Kind.{Kind}
use Rattle.ndef_format.specs.declared.table.Table.{Table}
use Rattle.ndef_format.specs.HeadReasons.{is_set, tnf_number}
use Rattle.ndef_piece.specs.HeaderLaws.{header, header_parts}
use Rattle.ndef_piece.specs.Come.{PiecesBegin, body_given, fronts, id_given, lengths_width, size_come}
use Rattle.ndef_piece.specs.ComeLaws.{fronts_begun, size_whole, spelled_first, whole_come}
use Rattle.ndef_piece.specs.Steps.{version_length}
use Rattle.ndef_piece.specs.Whole.{BeginWithPiece}
use Rattle.ndef_fields.specs.Fronts.{AreFrontBy, AreFrontParts, AreNestedFront, ArePayloadFront, content_come, front_parts, inner_come, kind_begun, tnf_come}
use Rattle.ndef_fields.specs.Lasts.{kind_there}
use Rattle.ndef_fields.specs.Messages.{AreParts, ArePartsBy, IsInnerOwn, IsOuterOwn, piece_kind}
use Rattle.ndef_fields.specs.Parts.{Part}
use Rattle.ndef_fields.specs.Payloads.{leaf_parts}
use Rattle.ndef_fields.specs.Refusals.{AreWholeBefore}
use Rattle.ndef_fields.specs.Walks.{inner_in, outer_come, outer_in, parts_along, parts_by, payload_parts}
use Rattle.ndef_fields.proofs.Fronts.{whole_front}
use Rattle.ndef_fields.proofs.Filled.{Anywhere, fill_leaf, least, nothing}
use Rattle.ndef_fields.proofs.Members.{HasPieceContents, HoldsPiecesBy}

module _ (depth : ℕ) (own : List ℕ → List Part) where
  -- the parts of the first piece go first
  pub parts_first : (p : Piece) (short : Bool) (front rest : List ℕ) → SpellsPiece p short front
      → parts_along depth own (fronts (front ++ rest)) ≡ front_parts depth front (own front) ++ parts_along depth own (fronts rest)
  parts_first p short front rest s = ap (parts_along depth own) (spelled_first p short front rest s)

  -- they are the parts of whole pieces
  pub along : (Own : Piece → List Part → Type 0) (ps : List Piece) (bytes : List ℕ) → SpellsPieces ps bytes
      → AllByRecursion (λ p. (short : Bool) (front : List ℕ) → SpellsPiece p short front → Own p (own front)) ps
      → AreParts depth Own ps bytes (parts_along depth own (fronts bytes))
  along Own [] bytes e h = (e, ap (λ x. parts_along depth own (fronts x)) e)
  along Own (p ∷ ps) bytes (short, front, rest, e, s, more) h = (
    short,
    front,
    rest,
    own front,
    parts_along depth own (fronts rest),
    e,
    s,
    h.0 short front s,
    ap (λ x. parts_along depth own (fronts x)) e ∙ parts_first p short front rest s
        ∙ ap (λ x. x ++ parts_along depth own (fronts rest)) (whole_front depth p short front (own front) s),
    along Own ps rest more h.1,
  )

  -- those of whole pieces, and of what follows them
  pub parts_after : (ps : List Piece) (front rest : List ℕ) → SpellsPieces ps front
      → parts_along depth own (fronts (front ++ rest)) ≡ parts_along depth own (fronts front) ++ parts_along depth own (fronts rest)
  parts_after [] front rest e =
      ap (λ x. parts_along depth own (fronts (x ++ rest))) e
      ∙ ap (λ x. parts_along depth own (fronts x) ++ parts_along depth own (fronts rest)) (sym e)
  parts_after (p ∷ ps) front rest (short, first, later, e, s, more) =
      let one = front_parts depth first (own first) in
      ap (λ x. parts_along depth own (fronts x)) (ap (λ x. x ++ rest) e ∙ append_assoc first later rest)
      ∙ parts_first p short first (later ++ rest) s
      ∙ ap (λ x. one ++ x) (parts_after ps later rest more)
      ∙ sym (append_assoc one (parts_along depth own (fronts later)) (parts_along depth own (fronts rest)))
      ∙ ap (λ x. x ++ parts_along depth own (fronts rest)) (sym (parts_first p short first later s) ∙ ap (λ x. parts_along depth own (fronts x)) (sym e))

  -- those of one that is not whole
  pub parts_last : own [] ≡ [] → (s : List ℕ) → length s < size_come s → parts_along depth own (fronts s) ≡ front_parts depth s (own s)
  parts_last none [] l = sym none
  parts_last none (b ∷ s) l =
      ap (parts_along depth own) (fronts_begun (b ∷ s) (omega arith) (omega (arith, l))) ∙ append-nil (front_parts depth (b ∷ s) (own (b ∷ s)))

-- ---- the payload of a whole piece
record HeadIs (p : Piece) (front : List ℕ) : Type 0 where
  tnf : tnf_of (tnf_number (slice_index front 0)) ≡ tnf_of p.tnf
  chunked : is_set 5 (slice_index front 0) ≡ p.chunked

head_is : (p : Piece) (short : Bool) (front : List ℕ) → SpellsPiece p short front → HeadIs p front
head_is p short front s =
    let q = header_parts (fields p short) s.piece.tnf in
    let e : slice_index front 0 ≡ header (fields p short) = ap (λ x. slice_index x 0) s.spelled in
    record { tnf = ap (λ h. tnf_of (tnf_number h)) e ∙ ap tnf_of q.tnf; chunked = ap (is_set 5) e ∙ q.chunked }

pub inner_own : (table : Table) (p : Piece) (short : Bool) (front : List ℕ) → SpellsPiece p short front → IsInnerOwn table p (inner_come table front)
inner_own table p short front s =
    let c = whole_come p short front s in
    ap₂ (leaf_parts 1) (ap₂ (kind_in table) (head_is p short front s).tnf c.kind_is) c.content_is

pub outer_own : (p : Piece) (short : Bool) (front : List ℕ) → SpellsPiece p short front → outer_come front ≡ payload_parts (piece_kind p) p.payload
outer_own p short front s =
    let c = whole_come p short front s in
    let h = head_is p short front s in
    ap₂ payload_parts (ap₂ kind_there h.chunked (ap₂ kind_of h.tnf c.kind_is)) c.content_is

-- ---- whole pieces
inner_owns : (table : Table) (ps : List Piece)
    → AllByRecursion (λ p. (short : Bool) (front : List ℕ) → SpellsPiece p short front → IsInnerOwn table p (inner_come table front)) ps
inner_owns table [] = tt
inner_owns table (p ∷ ps) = (inner_own table p, inner_owns table ps)

inner_parts : (table : Table) (ps : List Piece) (bytes : List ℕ) → SpellsPieces ps bytes → AreParts 1 (IsInnerOwn table) ps bytes (inner_in table bytes)
unfolding inner_in
inner_parts table ps bytes s = along 1 (inner_come table) (IsInnerOwn table) ps bytes s (inner_owns table ps)

-- a payload that holds whole pieces, where it holds a message
are_by : (table : Option Table) (kind : Kind) (s : List ℕ) → HoldsPiecesBy table s → ArePartsBy table kind s (parts_by table kind s)
are_by (Some table) kind s (ps, h) = (inner_in table (drop (version_length table) s), refl, (ps, inner_parts table ps _ h))
are_by None kind s h = refl

outer_owns : (ps : List Piece) → AllByRecursion HasPieceContents ps
    → AllByRecursion (λ p. (short : Bool) (front : List ℕ) → SpellsPiece p short front → IsOuterOwn p (outer_come front)) ps
outer_owns [] h = tt
outer_owns (p ∷ ps) h = (
  λ short front s. subst (IsOuterOwn p) (sym (outer_own p short front s)) (are_by (table_in (piece_kind p)) (piece_kind p) p.payload h.0),
  outer_owns ps h.1,
)

pub outer_parts : (ps : List Piece) (bytes : List ℕ) → SpellsPieces ps bytes → AllByRecursion HasPieceContents ps → AreParts 0 IsOuterOwn ps bytes (outer_in bytes)
unfolding outer_in
outer_parts ps bytes s h = along 0 outer_come IsOuterOwn ps bytes s (outer_owns ps h)

-- ---- whole pieces, and the front of one more
pub record Split (s : List ℕ) : Type 0 where
  pub rest : List ℕ
  pub whole : AreWholeBefore s rest
  pub short : length rest < size_come rest

shorter : (s : List ℕ) (w : BeginWithPiece s) → length w.rest < length s
shorter s w =
    let n = ap length w.split.joined ∙ length-append w.split.front w.rest in
    let k = ap length w.split.spells.spelled in
    omega (arith, n, k)

within : (s : List ℕ) (w : BeginWithPiece s) → size_come s ≤ length s
within s w =
    let n = ap length w.split.joined ∙ length-append w.split.front w.rest in
    let k = ap size_come w.split.joined ∙ size_whole w.piece w.short w.split.front w.rest w.split.spells in
    omega (arith, n, k)

pub empty_begins : ¬ BeginWithPiece []
empty_begins w = let n = within [] w in let m = least [] in omega (arith, n, m)

none_whole : (s : List ℕ) → length s < size_come s → Split s
none_whole s l = record {
  rest = s;
  whole = record { pieces = []; front = []; spelled = refl; split = refl; ended = λ w. let n = within s w in omega (arith, l, n) };
  short = l;
}

one_more : (s : List ℕ) (w : BeginWithPiece s) → Split w.rest → Split s
one_more s w t =
    let i = w.split in
    record {
      rest = t.rest;
      whole = record {
        pieces = w.piece ∷ t.whole.pieces;
        front = i.front ++ t.whole.front;
        spelled = (w.short, i.front, t.whole.front, refl, i.spells, t.whole.spelled);
        split = i.joined ∙ ap (λ x. i.front ++ x) t.whole.split ∙ sym (append_assoc i.front t.whole.front t.rest);
        ended = t.whole.ended;
      };
      short = t.short;
    }

module _ (begin : PiecesBegin) where
  split_in : (n : ℕ) (s : List ℕ) → length s < n → AreOctets s → Split s
  split_in zero s l all = absurd (omega (arith, l))
  split_in (suc n) s l all =
      elim (cases_lt (length s) (size_come s)) as (λ v. Split s) [
        | inl k ↦ none_whole s k
        | inr k ↦ (
            let w = begin s all k in
            let m = shorter s w in
            one_more s w (split_in n w.rest (omega (arith, l, m)) (octets_back w.split.front w.rest (subst AreOctets w.split.joined all)))
            )
      ]

  pub split_of : (s : List ℕ) → AreOctets s → Split s
  split_of s all = split_in (length s + 1) s (omega arith) all

  no_inner : (table : Table) → inner_come table [] ≡ []
  no_inner table = nothing Anywhere (inner_come table []) (fill_leaf Anywhere 1 tt (kind_in table (tnf_come []) []) [])

  nested : (table : Table) (s : List ℕ) → AreOctets s → AreNestedFront table s (inner_in table s)
  unfolding inner_in
  nested table s all =
      let t = split_of s all in
      let w = t.whole in
      record {
        rest = t.rest;
        whole = w;
        before = parts_along 1 (inner_come table) (fronts w.front);
        spelled = along 1 (inner_come table) (IsInnerOwn table) w.pieces w.front w.spelled (inner_owns table w.pieces);
        parts_are =
            ap (λ x. parts_along 1 (inner_come table) (fronts x)) w.split
            ∙ parts_after 1 (inner_come table) w.pieces w.front t.rest w.spelled
            ∙ ap (λ x. parts_along 1 (inner_come table) (fronts w.front) ++ x) (parts_last 1 (inner_come table) (no_inner table) t.rest t.short);
      }

  front_by : (table : Option Table) (kind : Kind) (s : List ℕ) → AreOctets s → AreFrontBy table kind s (parts_by table kind s)
  front_by (Some table) kind s all =
      (inner_in table (drop (version_length table) s), refl, nested table (drop (version_length table) s) (octets_drop (version_length table) s all))
  front_by None kind s all = refl

  pub payload_front : (kind : Kind) (s : List ℕ) → AreOctets s → ArePayloadFront kind s (payload_parts kind s)
  payload_front kind = front_by (table_in kind) kind

  pub front_spelled : (s : List ℕ) (all : AreOctets s) → AllByRecursion HasPieceContents (split_of s all).whole.pieces → AreFrontParts s (outer_in s)
  unfolding outer_in
  front_spelled s all h =
      let t = split_of s all in
      let w = t.whole in
      let rest = octets_back w.front t.rest (subst AreOctets w.split all) in
      record {
        rest = t.rest;
        whole = w;
        before = outer_in w.front;
        spelled = outer_parts w.pieces w.front w.spelled h;
        payload = outer_come t.rest;
        content =
            payload_front (kind_begun t.rest) (content_come t.rest)
            (octets_drop (slice_index t.rest 1 + id_given (slice_index t.rest 0) (drop 2 t.rest)) (body_given (slice_index t.rest 0) (drop 2 t.rest))
            (octets_drop (lengths_width (slice_index t.rest 0)) (drop 2 t.rest) (octets_drop 2 t.rest rest)));
        parts_are =
            ap outer_in w.split
            ∙ parts_after 0 outer_come w.pieces w.front t.rest w.spelled
            ∙ ap (λ x. outer_in w.front ++ x) (parts_last 0 outer_come refl t.rest t.short);
      }
