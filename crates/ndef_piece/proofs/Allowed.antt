-- No condition holds of any octet of a head that may occur.
use Rattle.std.proofs.Common.{◌≡◌, ℕ, ◌<◌, ◌≤◌, Bool, true, false, refl, sym, ◌∙◌, ap, arith, List, [], ◌∷◌, ◌++◌, length, Some, None, append_assoc, length-append}
use Rattle.std.specs.Prelude.{is_some, nat_lt, unwrap_or}
use Rattle.std.proofs.lemmas.Bool.{lt-ltb, le-ltb, eqb-true}
use Rattle.ndef_format.specs.Records.{HeadFields, octets, payload_length_octets}
use Rattle.ndef_format.specs.declared.spot.Spot.{Spot}
use Rattle.ndef_format.specs.Positions.{MayOccur, CanBeSpelled}
use Rattle.ndef_piece.specs.Heads.{IsViableHead}
use Rattle.ndef_format.specs.HeadReasons.{width, least_from, reason_for}
use Rattle.ndef_piece.proofs.Refusals.{header_fits, type_length_fits, not_zero}
use Rattle.ndef_piece.proofs.Guards.{and_false, skip}
use Rattle.ndef_piece.proofs.Sorts.{empty_lengths}
use Rattle.ndef_piece.proofs.Sizes.{width_of}
use Rattle.ndef_piece.proofs.Lengths.{within, length_octets}
use Rattle.ndef_piece.specs.HeaderLaws.{header, header_parts}
use Rattle.ndef_piece.proofs.Stages.{length_part, at_header, at_kind, at_length, at_id, stage}

-- each octet of the number 0 is 0
pub zero_octet : (short : Bool) (ls m : List ℕ) (b : ℕ) → payload_length_octets short 0 ≡ ls ++ b ∷ m → b ≡ 0
zero_octet true [] m b e = cc
zero_octet true (x ∷ []) m b e = cc
zero_octet true (x ∷ y ∷ ls) m b e = cc
zero_octet false [] m b e = cc
zero_octet false (x ∷ []) m b e = cc
zero_octet false (x ∷ y ∷ []) m b e = cc
zero_octet false (x ∷ y ∷ z ∷ []) m b e = cc
zero_octet false (x ∷ y ∷ z ∷ w ∷ []) m b e = cc
zero_octet false (x ∷ y ∷ z ∷ w ∷ v ∷ ls) m b e = cc

front_shorter : (xs ys : List ℕ) (b n : ℕ) → length (xs ++ b ∷ ys) ≡ n → length xs < n
front_shorter xs ys b n e = omega (arith, length-append xs (b ∷ ys), e)

-- the next octet of PAYLOAD_LENGTH stands in that field
pub in_length : (h : HeadFields) (ls m : List ℕ) (b : ℕ) → CanBeSpelled h → length_part h ≡ ls ++ b ∷ m → nat_lt (length ls) (width (header h)) ≡ true
in_length h ls m b l e =
    rw (width_of h l.tnf) (lt-ltb _ _ (front_shorter ls m b _ (ap length (sym e) ∙ (length_octets h.short h.payload_length l.form).0)))

-- the octet after PAYLOAD_LENGTH does not
pub past_length : (h : HeadFields) → CanBeSpelled h → nat_lt (length (length_part h)) (width (header h)) ≡ false
past_length h l = rw (width_of h l.tnf) (le-ltb _ _ (let e = (length_octets h.short h.payload_length l.form).0 in omega (arith, e)))

-- no condition holds of an octet of PAYLOAD_LENGTH
length_fits : (spot : Spot) (h : HeadFields) (ls m : List ℕ) (b : ℕ) → MayOccur spot h → length_part h ≡ ls ++ b ∷ m
    → reason_for spot (header h ∷ h.kind_length ∷ ls) b ≡ None
length_fits spot h ls m b s e =
    let f = in_length h ls m b s.spelled e in
    let re : length_part h ≡ (ls ++ b ∷ []) ++ m = e ∙ sym (append_assoc ls (b ∷ []) m) in
    let w = within h.short h.payload_length s.spelled.payload s.spelled.form (ls ++ b ∷ []) m re in
    let small : least_from (width (header h)) (ls ++ b ∷ []) ≤ spot.room = rw (width_of h s.spelled.tnf) (let r = s.room in omega (arith, w.0, r)) in
    rw (f, (header_parts h s.spelled.tnf).tnf)
    (skip _ _ _ (and_false _ _ (λ t. not_zero b (zero_octet h.short ls m b (ap (payload_length_octets h.short) (sym (empty_lengths h.tnf _ _ _ s.shape (eqb-true h.tnf 0 t)).1) ∙ e))))
    (skip _ _ _ (le-ltb _ _ small) refl))

-- no condition holds of ID_LENGTH
id_fits : (spot : Spot) (h : HeadFields) (b : ℕ) → MayOccur spot h → h.id_length ≡ Some b
    → reason_for spot (header h ∷ h.kind_length ∷ length_part h) b ≡ None
id_fits spot h b s e =
    let f = past_length h s.spelled in
    rw (f, (header_parts h s.spelled.tnf).tnf)
    (skip _ _ _ (and_false _ _ (λ t. not_zero b (sym (ap (λ o. unwrap_or o 0) e) ∙ (empty_lengths h.tnf _ _ _ s.shape (eqb-true h.tnf 0 t)).0)))
    refl)

-- an octet of a head that may stand meets no condition
pub allowed : (spot : Spot) (h : HeadFields) (xs rest : List ℕ) (b : ℕ) → MayOccur spot h → octets h ≡ xs ++ b ∷ rest → reason_for spot xs b ≡ None
allowed spot h xs rest b s e =
    elim (stage h xs rest b e) [
      | at_header x y ↦ rw (x, ← y) (header_fits spot h (is_some h.id_length) (header h) s (header_parts h s.spelled.tnf) (λ i. ap is_some (s.inside i).1))
      | at_kind x y ↦ rw (x, ← y) (type_length_fits spot (header h) h.tnf s.spelled.tnf h.kind_length _ _ (header_parts h s.spelled.tnf).tnf s.shape)
      | at_length ls m x y ↦ rw x (length_fits spot h ls m b s y)
      | at_id x y ↦ rw x (id_fits spot h b s y)
    ]

-- where a condition holds of an octet, no head goes on with it
pub refused : (spot : Spot) (xs : List ℕ) (b : ℕ) → (reason_for spot xs b ≡ None → ⊥) → IsViableHead spot (xs ++ b ∷ []) → ⊥
refused spot xs b bad v =
    bad (allowed spot v.0 xs v.1.rest b v.1.stands (v.1.spelled ∙ append_assoc xs (b ∷ []) v.1.rest))
