-- The parts of whole pieces: there is one list of them, by what has come of each.
use Rattle.std.proofs.Common.{◌≡◌, ℕ, Bool, refl, sym, ◌∙◌, ap, ap₂, subst, Option, Some, None, List, [], ◌∷◌, ◌++◌, map, take, drop}
use Rattle.std.specs.List.{AllByRecursion}
use Rattle.ndef_format.specs.Records.{Piece, SpellsPiece}
use Rattle.ndef_format.specs.Messages.{all_pieces, run_record, SpellsBy}
use Rattle.ndef_format.specs.Nested.{table_in}
use Rattle.ndef_format.specs.Payloads.{IsTypedPayload}
use Rattle.ndef_format.specs.NestedReasons.{TypedReason}
use Rattle.ndef_format.specs.declared.kind.Kind.{Kind}
use Rattle.ndef_format.specs.declared.table.Table.{Table}
use Rattle.ndef_format.specs.Accepted.{Accepted, IsMember}
use Rattle.ndef_piece.specs.Come.{fronts}
use Rattle.ndef_piece.specs.Steps.{version_length}
use Rattle.ndef_message.specs.Views.{OneView}
use Rattle.ndef_fields.specs.declared.name.FieldName.TheVariants as names
use Rattle.ndef_fields.specs.FieldLaws.{OneReport}
use Rattle.ndef_fields.specs.Fronts.{inner_come}
use Rattle.ndef_fields.specs.Messages.{piece_parts, AreParts, ArePartsBy, IsInnerOwn, IsOuterOwn, piece_kind}
use Rattle.ndef_fields.specs.Parts.{Part, reported, placed}
use Rattle.ndef_fields.specs.Walks.{inner_in, outer_come, outer_in, parts_along, parts_by}
use Rattle.ndef_fields.proofs.Fronts.{whole_front}
use Rattle.ndef_fields.proofs.Walks.{inner_own, outer_own, parts_first}

module _ (depth : ℕ) (Own : Piece → List Part → Type 0) (own : List ℕ → List Part)
    (is : (p : Piece) (short : Bool) (front : List ℕ) (parts : List Part) → SpellsPiece p short front → Own p parts → parts ≡ own front) where
  pub pieces_are : (ps : List Piece) (bytes : List ℕ) (parts : List Part) → AreParts depth Own ps bytes parts → parts ≡ parts_along depth own (fronts bytes)
  pieces_are [] bytes parts h = h.1 ∙ ap (λ x. parts_along depth own (fronts x)) (sym h.0)
  pieces_are (p ∷ ps) bytes parts (short, front, rest, payload, later, e, s, o, pe, q) =
      pe
      ∙ ap₂ (λ x y. x ++ y) (ap (piece_parts depth p short) (is p short front payload s o) ∙ sym (whole_front depth p short front (own front) s)) (pieces_are ps rest later q)
      ∙ sym (parts_first depth own p short front rest s)
      ∙ ap (λ x. parts_along depth own (fronts x)) (sym e)

pub inner_are : (table : Table) (ps : List Piece) (bytes : List ℕ) (parts : List Part) → AreParts 1 (IsInnerOwn table) ps bytes parts → parts ≡ inner_in table bytes
unfolding inner_in
inner_are table = pieces_are 1 (IsInnerOwn table) (inner_come table) (λ p short front parts s o. o ∙ sym (inner_own table p short front s))

by_are : (table : Option Table) (kind : Kind) (s : List ℕ) (parts : List Part) → ArePartsBy table kind s parts → parts ≡ parts_by table kind s
by_are (Some table) kind s parts (inner, e, (ps, q)) =
    e ∙ ap (λ x. reported 0 names.Version (take (version_length table) s) ++ x) (inner_are table ps (drop (version_length table) s) inner q)
by_are None kind s parts h = h

pub outer_are : (ps : List Piece) (bytes : List ℕ) (parts : List Part) → AreParts 0 IsOuterOwn ps bytes parts → parts ≡ outer_in bytes
unfolding outer_in
outer_are =
    pieces_are 0 IsOuterOwn outer_come
    (λ p short front parts s o. by_are (table_in (piece_kind p)) (piece_kind p) p.payload parts o ∙ sym (outer_own p short front s))

-- ---- messages
pub one_report : OneView IsTypedPayload TypedReason → OneReport
one_report view limits input fields other a b =
    let d = a.accepted in
    let same = sym d.spelling.message.items in
    let accepted : Accepted IsTypedPayload limits (map run_record d.runs) (take a.count input) = record {
      runs = d.runs;
      spelling = subst (λ m. SpellsBy limits.profile d.runs m (take a.count input)) same d.spelling;
      within = d.within;
      members = subst (AllByRecursion (IsMember IsTypedPayload limits)) same d.members;
    } in
    let seen = view limits input (record { taken = a.count; runs = d.runs; profile = limits.profile }) b.items b.count (a.within, (accepted, refl), refl) b.within b.accepted in
    a.placed
    ∙ ap (placed 0)
    (
    outer_are (all_pieces d.runs) (take a.count input) a.parts a.spelled
    ∙ ap (λ n. outer_in (take n input)) (sym seen.count_is)
    ∙ sym (outer_are (all_pieces b.accepted.runs) (take b.count input) b.parts b.spelled)
    )
    ∙ sym b.placed
