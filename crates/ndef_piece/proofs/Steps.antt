-- The reader's steps.
use Rattle.std.proofs.Common.{◌≡◌, ℕ, ◌^◌, ◌<◌, refl, sym, ◌∙◌, ap, subst, arith, List, [], ◌∷◌, ◌++◌, length, Some, None, length-append}
use Rattle.std.specs.Prelude.{slice_index}
use Rattle.std.proofs.lemmas.List.{append-nil}
use Rattle.ndef_format.specs.declared.reason.Reason.{Reason}
use Rattle.ndef_piece.specs.declared.head.Head.{Head}
use Rattle.ndef_format.specs.declared.spot.Spot.{Spot}
use Rattle.ndef_piece.specs.declared.head_reader.Step.{Step}
use Rattle.ndef_piece.specs.declared.head_reader.Step.TheVariants as steps
use Rattle.ndef_format.specs.Records.{HeadFields, octets}
use Rattle.ndef_piece.specs.Heads.{head, IsRange}
use Rattle.ndef_format.specs.Positions.{CanBeSpelled, IsOpen}
use Rattle.ndef_piece.specs.Header.{size}
use Rattle.ndef_format.specs.HeadReasons.{reason_for}
use Rattle.ndef_piece.specs.Ranges.{range_of}
use Rattle.ndef_piece.specs.Machine.Reading.{Reading, IsAnswer, IsSound}
use Rattle.ndef_piece.specs.HeaderLaws.{octets_size, header}
use Rattle.ndef_piece.proofs.Allowed.{refused}
use Rattle.ndef_piece.proofs.Takes.{taken}
use Rattle.ndef_piece.proofs.Sizes.{size_small}
use Rattle.ndef_piece.proofs.Ranges.{any_head, any_stands, open_range, whole_range}

-- nothing taken is open
pub open_start : (spot : Spot) → IsOpen spot []
open_start spot = record {
  fields = any_head spot 0;
  stands = any_stands spot 0 (omega arith) (omega arith);
  next = _;
  rest = _;
  spelled = refl;
}

-- an open front has fewer than 7 octets
pub open_short : (spot : Spot) (xs : List ℕ) → IsOpen spot xs → length xs < 7
open_short spot xs o =
    let e = octets_size o.fields o.stands.spelled.tnf in
    let s = size_small (header o.fields) in
    omega (arith, e, s, ap length o.spelled, length-append xs (o.next ∷ o.rest))

-- the first octet of a viable front is the header octet
first_octet : (h : HeadFields) (xs r : List ℕ) (b : ℕ) → octets h ≡ (xs ++ b ∷ []) ++ r → slice_index (xs ++ b ∷ []) 0 ≡ header h
first_octet h [] r b e = let f : header h ≡ b = cc in sym f
first_octet h (x ∷ xs) r b e = let f : header h ≡ x = cc in sym f

-- what is answered where no condition holds
pub answered : (spot : Spot) (xs : List ℕ) (b : ℕ) (answer : Step) → IsOpen spot xs → b < 256 → reason_for spot xs b ≡ None
    → (length (xs ++ b ∷ []) < size (slice_index (xs ++ b ∷ []) 0) → answer ≡ steps.More)
    → ((h : HeadFields) → CanBeSpelled h → octets h ≡ xs ++ b ∷ [] → answer ≡ steps.Head (head h))
    → IsAnswer spot xs b answer
answered spot xs b answer o below none more whole =
    let v = taken spot xs b o below none in
    elim v.1.rest as (λ r. octets v.0 ≡ (xs ++ b ∷ []) ++ r → IsAnswer spot xs b answer) [
      | [] ↦ λ e.
          let f : octets v.0 ≡ xs ++ b ∷ [] = e ∙ append-nil (xs ++ b ∷ []) in
          subst (IsAnswer spot xs b) (sym (whole v.0 v.1.stands.spelled f)) (record { fields = v.0; stands = v.1.stands; spelled = f; read = refl })
      | y ∷ r ↦ λ e.
          let n = octets_size v.0 v.1.stands.spelled.tnf in
          let f = first_octet v.0 xs (y ∷ r) b e in
          let m = ap length e in
          let k = length-append (xs ++ b ∷ []) (y ∷ r) in
          subst (IsAnswer spot xs b) (sym (more (rw f (omega (arith, n, m, k)))))
          (record { fields = v.0; stands = v.1.stands; next = y; rest = r; spelled = e })
    ] v.1.spelled

-- what is answered where one holds
pub answered_refused : (spot : Spot) (xs : List ℕ) (b : ℕ) (r : Reason) → reason_for spot xs b ≡ Some r → IsAnswer spot xs b (steps.Refused r)
answered_refused spot xs b r e = (refused spot xs b (λ n. (let f : Some r ≡ None = sym e ∙ n in cc)), e)

-- an answer to an octet is true of the octets with it
pub sound_answer : (spot : Spot) (xs ys : List ℕ) (b : ℕ) (old answer : Step) → ys ≡ xs ++ b ∷ [] → IsAnswer spot xs b answer
    → IsSound (record { spot = spot; octets = ys; answer = old }) answer
sound_answer spot xs ys b old steps.More e a = rw e a
sound_answer spot xs ys b old (steps.Head h) e a = rw e a
sound_answer spot xs ys b old (steps.Refused r) e a = rw e a.0

-- the lengths that are left
pub lengths_open : (r : Reading) (answer : Step) (range : ℕ × ℕ) → r.spot.room < 2 ^ 32 → IsSound r answer → answer ≡ steps.More
    → range ≡ range_of r.spot r.octets → IsRange r.spot r.octets range
lengths_open r answer range room s e f = rw f (open_range r.spot r.octets room (subst (IsSound r) e s))

-- and after a whole head
pub lengths_whole : (r : Reading) (answer : Step) (h : Head) → IsSound r answer → answer ≡ steps.Head h → IsRange r.spot r.octets (h.payload_length, h.payload_length)
lengths_whole r answer h s e = whole_range r.spot r.octets h (subst (IsSound r) e s)

-- readings with equal parts are equal
pub same_reading : (s t : Spot) (xs ys : List ℕ) (a : Step) → s ≡ t → xs ≡ ys
    → ◌≡◌ {A = Reading} (record { spot = s; octets = xs; answer = a }) (record { spot = t; octets = ys; answer = a })
same_reading s t xs ys a e f = rw (e, f) refl
