-- The records of a nested message, by a walk over its pieces.
use Rattle.std.proofs.Common.{◌≡◌, ◌+◌, ◌<◌, Bool, sym, ◌∙◌, ap, subst, arith, List, [], ◌∷◌, ◌++◌, length, map, append-nil, append_assoc, length-append, ℕ, Option, Some}
use Rattle.std.specs.Prelude.{slice_index, unwrap_or}
use Rattle.std.specs.List.{AllByRecursion}
use Rattle.ndef_value.specs.ListLaws.{cut_alike}
use Rattle.ndef_format.specs.HeadReasons.{tnf_number}
use Rattle.ndef_format.specs.Messages.{SpellsPieces, all_pieces, payload_of, run_record}
use Rattle.ndef_format.specs.Nested.{kind_in}
use Rattle.ndef_format.specs.Records.{Piece, Run, SpellsPiece, fields, tnf_of}
use Rattle.ndef_format.specs.declared.table.Table.{Table}
use Rattle.ndef_format.specs.declared.table.Table.TheVariants.{SmartPoster}
use Rattle.ndef_piece.specs.Come.{IsFrontOf, content_come, fronts, kind_come}
use Rattle.ndef_piece.specs.ComeLaws.{piece_spelled, spelled_first, whole_come}
use Rattle.ndef_piece.specs.HeaderLaws.{header_parts}
use Rattle.ndef_piece.specs.Steps.{IsInnerStep, IsNextStep, inner_by, left}
use Rattle.ndef_piece.specs.declared.front.PieceFront.{PieceFront}
use Rattle.ndef_piece.specs.declared.walk.Walk.{Walk}
use Rattle.ndef_piece.specs.declared.walk.WalkStep.{WalkStep}
use Rattle.ndef_tool.specs.Members.{AreMembers}
use Rattle.ndef_tool.specs.declared.nested.Member.{Member}

-- the parts of the piece that the bytes spell first
record PieceHere (p : Piece) (rest t : List ℕ) (f : PieceFront) : Type 0 where
  tnf : tnf_number f.header ≡ p.tnf
  kind : f.kind.now ≡ p.kind
  payload : f.payload.now ≡ p.payload
  rest_is : rest ≡ t

piece_here : (p : Piece) (short : Bool) (front rest s t : List ℕ) (f : PieceFront) → SpellsPiece p short front → s ≡ front ++ rest → 0 < length s → IsFrontOf s t f
    → PieceHere p rest t f
piece_here p short front rest s t f spells e some h =
    let both : f.octets.now ∷ fronts t ≡ front ∷ fronts rest = sym (h.first some) ∙ ap fronts e ∙ spelled_first p short front rest spells in
    let o : f.octets.now ≡ front = cc in
    let c = whole_come p short front spells in
    let head = header_parts (fields p short) (piece_spelled p short front spells).tnf in
    record {
      tnf = ap tnf_number (h.header ∙ ap (λ x. slice_index x 0) (e ∙ ap (λ x. x ++ rest) spells.spelled)) ∙ head.tnf;
      kind = h.parts.kind ∙ ap kind_come o ∙ c.kind_is;
      payload = h.parts.payload ∙ ap content_come o ∙ c.content_is;
      rest_is = (cut_alike front f.octets.now rest t (ap length (sym o)) (sym e ∙ h.joined)).1;
    }

-- what a step shows of the record whose piece comes next
record MemberHere (table : Table) (r : Run) (rs : List Run) (step : WalkStep) (next : Walk) : Type 0 where
  kind : step.kind ≡ kind_in table (run_record r).tnf (run_record r).kind
  payload : step.piece.payload.now ≡ (run_record r).payload
  rest : SpellsPieces (all_pieces rs) next.inner.now

member_here : (table : Table) (r : Run) (rs : List Run) (w : Walk) (step : WalkStep) (next : Walk) → w.table ≡ table → 0 < length w.inner.now → IsInnerStep w step next
    → r.later ≡ [] → SpellsPieces (all_pieces (r ∷ rs)) w.inner.now → MemberHere table r rs step next
member_here table r rs w step next same some st single (short, front, rest, e, spells, more) =
    let h = piece_here r.initial short front rest w.inner.now next.inner.now step.piece spells e some st.front in
    record {
      kind = st.kind ∙ (λ j. kind_in (same j) (tnf_of (h.tnf j)) (h.kind j));
      payload = h.payload ∙ sym (append-nil r.initial.payload) ∙ ap (λ l. r.initial.payload ++ payload_of l) (sym single);
      rest = subst (SpellsPieces (all_pieces rs)) h.rest_is (subst (λ l. SpellsPieces (l ++ all_pieces rs) rest) single more);
    }

-- whatever follows the records so far is the records of the runs that are left
pub record IsLeft (table : Table) (runs : List Run) (members : List Member) (w : Walk) : Type 0 where
  pub rest : List Run
  pub same : w.table ≡ table
  pub single : AllByRecursion (λ r. r.later ≡ []) rest
  pub spelled : SpellsPieces (all_pieces rest) w.inner.now
  pub on : (more : List Member) → AreMembers table (map run_record rest) more → AreMembers table (map run_record runs) (members ++ more)

pub none_taken : (table : Table) (runs : List Run) (kind_table : Option Table) (w : Walk) (payload : List ℕ) → w.inner.now ≡ inner_by kind_table payload
    → w.table ≡ unwrap_or kind_table SmartPoster → kind_table ≡ Some table → AllByRecursion (λ r. r.later ≡ []) runs
    → SpellsPieces (all_pieces runs) (inner_by (Some table) payload) → IsLeft table runs [] w
none_taken table runs kind_table w payload e same k single spelled = record {
  rest = runs;
  same = same ∙ ap (λ o. unwrap_or o SmartPoster) k;
  single = single;
  spelled = subst (SpellsPieces (all_pieces runs)) (ap (λ o. inner_by o payload) (sym k) ∙ sym e) spelled;
  on = λ more are. are;
}

-- a step is of the nested message where no other octets are left
pub is_inner : (w : Walk) (step : WalkStep) (next : Walk) → w.outer.now ≡ [] → IsNextStep w step next → IsInnerStep w step next
is_inner w step next e st = st.inner (omega (arith, st.fewer, ap length e))

abbrev member : WalkStep → Member
member step = record { kind = step.kind; payload = step.piece.payload }

pub one_taken : (table : Table) (runs : List Run) (members : List Member) (w : Walk) (step : WalkStep) (next : Walk) → w.outer.now ≡ [] → IsNextStep w step next
    → IsLeft table runs members w → IsLeft table runs (members ++ (record { kind = step.kind; payload = step.piece.payload }) ∷ []) next
one_taken table runs members w step next e st l = by l.rest l.single l.spelled l.on
  where
    some : 0 < length w.inner.now
    some = omega (arith, st.fewer, ap length e)

    by : (rest : List Run) → AllByRecursion (λ r. r.later ≡ []) rest → SpellsPieces (all_pieces rest) w.inner.now
        → ((more : List Member) → AreMembers table (map run_record rest) more → AreMembers table (map run_record runs) (members ++ more))
        → IsLeft table runs (members ++ member step ∷ []) next
    by [] single spelled on = absurd (omega (arith, some, ap length spelled))
    by (r ∷ rs) single spelled on =
        let inner = is_inner w step next e st in
        let h = member_here table r rs w step next l.same some inner single.0 spelled in
        record {
          rest = rs;
          same = inner.table ∙ l.same;
          single = single.1;
          spelled = h.rest;
          on = λ more are. subst (AreMembers table (map run_record runs)) (sym (append_assoc members (member step ∷ []) more)) (on (member step ∷ more) (h.kind, h.payload, are));
        }

pub all_taken : (table : Table) (runs : List Run) (members : List Member) (w : Walk) → left w ≡ 0 → IsLeft table runs members w → AreMembers table (map run_record runs) members
all_taken table runs members w e l = by l.rest l.spelled l.on
  where
    by : (rest : List Run) → SpellsPieces (all_pieces rest) w.inner.now
        → ((more : List Member) → AreMembers table (map run_record rest) more → AreMembers table (map run_record runs) (members ++ more))
        → AreMembers table (map run_record runs) members
    by [] spelled on = subst (AreMembers table (map run_record runs)) (append-nil members) (on [] tt)
    by (r ∷ rs) (short, front, rest, join, spells, more) on =
        absurd (omega (arith, e, ap length join, length-append front rest, ap length spells.spelled))
