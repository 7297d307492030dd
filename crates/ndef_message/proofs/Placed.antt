-- A point that bytes lead to is a field after whole runs and the pieces of an open one.
use Rattle.std.proofs.Common.{◌≡◌, ℕ, Bool, refl, sym, ◌∙◌, ap, subst, List, [], ◌∷◌, ◌++◌, map, append-nil, None, inl, inr}
use Rattle.ndef_format.specs.Messages.{Item, SpellsPieces, all_pieces, run_record}
use Rattle.ndef_format.specs.Records.{Piece, Run, octets}
use Rattle.ndef_format.specs.Limits.{LimitValues}
use Rattle.ndef_format.specs.declared.reason.Reason.{Reason}
use Rattle.ndef_format.specs.Reasons.{Conditions}
use Rattle.ndef_format.specs.declared.spot.Spot.{Spot}
use Rattle.ndef_format.specs.Positions.{IsOpen, MayOccur, spot_after, IsAt, EndsAt, AreBefore, begun_record}
use Rattle.ndef_piece.specs.Walk.{Before, spot, standing, IsCounted, WalksAreCounted}
use Rattle.ndef_format.specs.Positions as fields
use Rattle.ndef_message.specs.Opened.{AreRecords}
use Rattle.ndef_format.specs.Refusals.{IsReason, IsReasonOf}
use Rattle.ndef_message.specs.Machine.Points.{Point, InHead, InType, InId, InPayload, AtEnd, before, field_of, octets_at, IsPartAt, IsProperAt, IsAtPoint, IsReasonAt, IsBetweenRecords}

-- the runs and the open pieces before a point, and its field
pub record Placed (limits : LimitValues) (bytes : List ℕ) (given : List Item) (point : Point) : Type 0 where
  pub runs : List Run
  pub begun : List Piece
  pub means : given ≡ map run_record runs
  pub at : IsAt limits bytes runs begun (field_of point)
  pub record_is : (before point).begun ≡ begun_record begun
  pub spot_is : spot limits.profile (before point) ≡ spot_after limits runs begun

same_octets : (point : Point) → octets_at point ≡ fields.octets_so_far (field_of point)
same_octets (InHead c xs) = refl
same_octets (InType c f kind) = ap (λ y. octets f ++ y) (append-nil kind)
same_octets (InId c f kind id) = ap (λ y. octets f ++ (kind ++ y)) (append-nil id)
same_octets (InPayload c f kind id payload) = refl
same_octets (AtEnd c) = refl

part_at : (limits : LimitValues) (place : Spot) (c : Before) (f : _) (kind id payload : List ℕ) → spot limits.profile c ≡ place → IsPartAt limits c f kind id payload → fields.IsPart place f kind id payload
part_at limits place c f kind id payload e p =
    record { stands = subst (λ x. MayOccur x f) e p.stands; name_octets = p.kind_octets; id_octets = p.id_octets; content_octets = p.payload_octets }

proper_at : (limits : LimitValues) (place : Spot) (point : Point) → spot limits.profile (before point) ≡ place → IsProperAt limits point → fields.IsProper place (field_of point)
proper_at limits place (InHead c xs) e p = subst (λ x. IsOpen x xs) e p.1
proper_at limits place (InType c f kind) e p = (part_at limits place c f kind [] [] e p.0, p.1)
proper_at limits place (InId c f kind id) e p = (part_at limits place c f kind id [] e p.0, p.1, p.2)
proper_at limits place (InPayload c f kind id payload) e p = (part_at limits place c f kind id payload e p.0, p.1, p.2, p.3)
proper_at limits place (AtEnd c) e p = tt

ends_at : (limits : LimitValues) (ps : List Piece) (given : List Item) (point : Point) → IsCounted limits ps given (before point) → IsProperAt limits point → EndsAt (field_of point) ps
ends_at limits ps given (InHead c xs) k p = k.not_over p.0
ends_at limits ps given (InType c f kind) k p = k.not_over p.0.goes_on
ends_at limits ps given (InId c f kind id) k p = k.not_over p.0.goes_on
ends_at limits ps given (InPayload c f kind id payload) k p = k.not_over p.0.goes_on
ends_at limits ps given (AtEnd c) k p = k.over p

standing_record : (limits : LimitValues) (first over : Bool) (records : ℕ) (begun : List Piece) → (standing limits first over records begun).begun ≡ begun_record begun
standing_record limits first over records [] = refl
standing_record limits first over records (p ∷ begun) = refl

pub placed : WalksAreCounted → (limits : LimitValues) (bytes : List ℕ) (given : List Item) (point : Point) → IsAtPoint limits bytes given point → Placed limits bytes given point
placed counted limits bytes given point a =
    let k = counted limits a.pieces given (before point) a.walked in
    record {
      runs = k.runs;
      begun = k.begun;
      means = k.done_are;
      at = record {
        front = a.done;
        split = a.split ∙ ap (λ y. a.done ++ y) (same_octets point);
        spelled = subst (λ ps. SpellsPieces ps a.done) k.pieces_are a.spelled;
        before = k.before;
        ends = subst (EndsAt (field_of point)) k.pieces_are (ends_at limits a.pieces given point k a.proper);
        proper = proper_at limits (spot_after limits k.runs k.begun) point k.spot_is a.proper;
      };
      record_is = ap (λ c. c.begun) k.known ∙ standing_record limits (before point).first (before point).over _ k.begun;
      spot_is = k.spot_is;
    }

-- the reason of an octet there
pub placed_reason : {limits : LimitValues} {bytes : List ℕ} {given : List Item} {point : Point} (p : Placed limits bytes given point) (holds : Conditions) (b : ℕ) (reason : Reason)
    → IsReasonAt holds limits point b reason → IsReason holds limits p.runs p.begun (field_of point) b reason
placed_reason {limits} {point = point} p holds b reason h =
    subst (λ m. IsReasonOf holds limits (spot_after limits p.runs p.begun) m (field_of point) b reason) p.record_is
    (subst (λ x. IsReasonOf holds limits x (before point).begun (field_of point) b reason) p.spot_is h)

-- .. and back
pub reason_at : {limits : LimitValues} {bytes : List ℕ} {given : List Item} {point : Point} (p : Placed limits bytes given point) (holds : Conditions) (b : ℕ) (reason : Reason)
    → IsReason holds limits p.runs p.begun (field_of point) b reason → IsReasonAt holds limits point b reason
reason_at {limits} {point = point} p holds b reason h =
    subst (λ x. IsReasonOf holds limits x (before point).begun (field_of point) b reason) (sym p.spot_is)
    (subst (λ m. IsReasonOf holds limits (spot_after limits p.runs p.begun) m (field_of point) b reason) (sym p.record_is) h)

-- ---- whole runs

pub runs_alone : {limits : LimitValues} {runs : List Run} {begun : List Piece} → AreBefore limits runs begun → AreBefore limits runs []
runs_alone b = record { whole = b.whole; going_on = tt; runs_are_consistent = b.runs_are_consistent; begun_are_consistent = tt }

none_begun : (begun : List Piece) → begun_record begun ≡ None → begun ≡ []
none_begun [] e = refl
none_begun (p ∷ begun) e = cc

-- where no record is begun the bytes are those of records
pub records_there : WalksAreCounted → (limits : LimitValues) (bytes : List ℕ) (given : List Item) (point : Point) → IsBetweenRecords point → IsAtPoint limits bytes given point → AreRecords limits bytes given
records_there counted limits bytes given point between a = by_side between
  where
    p : Placed limits bytes given point
    p = placed counted limits bytes given point a

    at : (before point).begun ≡ None → octets_at point ≡ [] → AreRecords limits bytes given
    at none empty =
        let begun = none_begun p.begun (sym p.record_is ∙ none) in
        let all : bytes ≡ p.at.front = p.at.split ∙ ap (λ y. p.at.front ++ y) (sym (same_octets point) ∙ empty) ∙ append-nil p.at.front in
        record {
          runs = p.runs;
          means = p.means;
          before = runs_alone p.at.before;
          spelled = subst (λ ps. SpellsPieces ps bytes) (ap (λ y. all_pieces p.runs ++ y) begun ∙ append-nil (all_pieces p.runs)) (subst (SpellsPieces (all_pieces p.runs ++ p.begun)) (sym all) p.at.spelled);
        }

    by_side : IsBetweenRecords point → AreRecords limits bytes given
    by_side (c, none, inl e) = at (ap (λ x. (before x).begun) e ∙ none) (ap octets_at e)
    by_side (c, none, inr e) = at (ap (λ x. (before x).begun) e ∙ none) (ap octets_at e)
