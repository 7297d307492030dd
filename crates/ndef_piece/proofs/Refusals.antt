-- No condition holds of an octet of a head that may occur.
use Rattle.std.proofs.Common.{◌≡◌, ℕ, ◌<◌, Bool, true, false, refl, ◌∙◌, ap, arith, [], ◌∷◌, None}
use Rattle.std.specs.Prelude.{◌==◌, nat_lt, not, ◌&&◌}
use Rattle.std.proofs.lemmas.Bool.{ltb-true, eqb-true, ne_eqb, not-true, and_parts}
use Rattle.ndef_format.specs.Records.{HeadFields, HasShape, IsRead, tnf_of}
use Rattle.ndef_format.specs.declared.profile.Profile.{Profile}
use Rattle.ndef_format.specs.declared.profile.Profile.TheVariants.{Strict, Standard}
use Rattle.ndef_format.specs.declared.spot.Spot.{Spot}
use Rattle.ndef_format.specs.Positions.{MayOccur}
use Rattle.ndef_format.specs.HeadReasons.{tnf_number, is_strict, reason_for}
use Rattle.ndef_piece.specs.HeaderLaws.{HeaderParts}
use Rattle.ndef_piece.proofs.Sorts.{empty, named, unnamed, sort}
use Rattle.ndef_piece.proofs.Guards.{and_false, skip}

-- a strict reader reads no 7
strict_read : (profile : Profile) (n : ℕ) → IsRead profile n → is_strict profile ≡ true → (n == 7) ≡ false
strict_read Strict n h e = ne_eqb n 7 (λ f. omega arith)
strict_read Standard n h e = cc

-- no condition holds of the header octet
pub header_fits : (spot : Spot) (h : HeadFields) (i : Bool) (n : ℕ) → MayOccur spot h → HeaderParts n h.first h.last h.chunked h.short i h.tnf
    → (spot.inside ≡ true → i ≡ false) → reason_for spot [] n ≡ None
header_fits spot h i n m p no_id =
    rw (p.begins, p.ends, p.chunked, p.id_there, p.tnf)
    (skip _ _ _ (and_false _ _ (strict_read spot.profile h.tnf m.read))
    (skip _ _ _ (and_false _ _ (λ e. ap not (m.begins ∙ e)))
    (skip _ _ _ (and_false _ _ (λ e. m.begins ∙ not-true _ e))
    (skip _ _ _ (and_false _ _ (λ e. ne_eqb h.tnf 6 (m.outside (not-true _ e)).0))
    (skip _ _ _ (and_false _ _ (λ e. ap (λ t. not (t == 6)) (m.inside e).0))
    (skip _ _ _ (and_false _ _ no_id)
    (skip _ _ _ (and_false _ _ (λ e. (m.chunked e).0))
    (skip _ _ _ (and_false _ _ (λ e. and_false _ _ (λ f. ne_eqb h.tnf 0 ((m.outside (not-true _ e)).1 f))))
    (skip _ _ _ (and_false _ _ (λ e. (m.chunked e).1))
    (skip _ _ _ (and_false _ _ (λ e. and_false _ _ (λ f. m.followed (not-true _ e) (not-true _ f))))
    refl))))))))))

-- the number 0 is 0
pub not_zero : (k : ℕ) → k ≡ 0 → not (k == 0) ≡ false
not_zero k e = rw e refl

-- the three conditions on a type length
kind_fits : (t : ℕ) → t < 8 → (k i n : ℕ) → HasShape (tnf_of t) k i n → ((nat_lt 4 t && not (k == 0)) ≡ false) × (((nat_lt 0 t && nat_lt t 5) && k == 0) ≡ false) × ((t == 0 && not (k == 0)) ≡ false)
kind_fits t h k i n s =
    elim (sort t h) [
      | empty z ↦
          let s' = rw z at s in
          rw (z, s'.0) (refl, refl, refl)
      | named a b f ↦ (
        and_false _ _ (λ e. absurd (let g = ltb-true 4 t e in omega arith)),
        and_false _ _ (λ e. ne_eqb k 0 (λ z. (let g = (f k i n).0 s in omega arith))),
        and_false _ _ (λ e. absurd (let g = eqb-true t 0 e in omega arith)),
      )
      | unnamed a f ↦ (
        and_false _ _ (λ e. not_zero k ((f k i n).0 s)),
        and_false (nat_lt 0 t && nat_lt t 5) (k == 0) (λ e. absurd (let g : t < 5 = ltb-true t 5 (and_parts (nat_lt 0 t) (nat_lt t 5) e).1 in omega arith)),
        and_false _ _ (λ e. not_zero k ((f k i n).0 s)),
      )
    ]

-- no condition holds of the type length
pub type_length_fits : (spot : Spot) (header t : ℕ) → t < 8 → (k i n : ℕ) → tnf_number header ≡ t → HasShape (tnf_of t) k i n → reason_for spot (header ∷ []) k ≡ None
type_length_fits spot header t h k i n e s =
    let f = kind_fits t h k i n s in
    rw e (skip _ _ _ f.0 (skip _ _ _ f.1 (skip _ _ _ f.2 refl)))
