-- If no condition holds of an octet, some head that may occur continues with it.
use Rattle.std.proofs.Common.{◌≡◌, ◌≢◌, ℕ, zero, suc, ◌^◌, ◌<◌, ◌≤◌, inl, inr, Bool, true, false, cond, refl, sym, ◌∙◌, ap, subst, arith, List, [], ◌∷◌, ◌++◌, length, Option, Some, None, append_assoc, length-append}
use Rattle.std.specs.Prelude.{is_some, ◌==◌, not, ◌&&◌, nat_lt, unwrap_or}
use Rattle.std.proofs.lemmas.Bool.{lt-ltb, ltb-false, eqb-false, eqb-true, eq-eqb, not-false, and_from}
use Rattle.std.proofs.lemmas.Bool.Decides.{eqb_tells}
use Rattle.ndef_format.specs.Records.{HeadFields, HasShape, IsRead, tnf_of, header_octet, payload_length_octets, id_length_octets, FitsForm, AreOctets}
use Rattle.ndef_format.specs.declared.profile.Profile.{Profile}
use Rattle.ndef_format.specs.declared.profile.Profile.TheVariants.{Strict, Standard}
use Rattle.ndef_format.specs.declared.spot.Spot.{Spot}
use Rattle.ndef_format.specs.Positions.{MayOccur, IsOpen}
use Rattle.ndef_piece.specs.Heads.{BeginsHead, IsViableHead}
use Rattle.ndef_format.specs.HeadReasons.{is_set, tnf_number, is_strict, least_from, reason_for}
use Rattle.ndef_piece.specs.Ranges.{greatest_from}
use Rattle.ndef_piece.specs.Machine.Reading.{ConditionsAreExact}
use Rattle.ndef_piece.proofs.HeaderOctet.{octet_of_parts}
use Rattle.ndef_piece.proofs.Guards.{false_of_and, same_flag, skipped}
use Rattle.ndef_piece.proofs.Sorts.{empty, named, unnamed, sort, other_payload, empty_lengths}
use Rattle.ndef_value.specs.ListLaws.{octets_front, octets_append}
use Rattle.ndef_piece.proofs.Sizes.{width_of}
use Rattle.std.proofs.lemmas.List.{append-nil}
use Rattle.ndef_piece.proofs.Lengths.{octet_count, has, fits_form, least_below, length_octets}
use Rattle.ndef_piece.specs.HeaderLaws.{header, header_parts}
use Rattle.ndef_piece.proofs.Stages.{length_part, at_header, at_kind, at_length, at_id, stage}
use Rattle.ndef_piece.proofs.Allowed.{allowed, zero_octet, in_length, past_length}

-- ---- the header octet

-- what a strict reader does not refuse is read
read_from : (profile : Profile) (n : ℕ) → n < 8 → (is_strict profile && n == 7) ≡ false → IsRead profile n
read_from Strict n h e = let f = eqb-false n 7 e in omega (arith, f)
read_from Standard n h e = h

-- the least type length
abbrev least_kind : ℕ → ℕ
least_kind t = cond (nat_lt 0 t && nat_lt t 5) 1 0

-- the least lengths have a shape
least_shape : (t : ℕ) → t < 8 → HasShape (tnf_of t) (least_kind t) 0 0
least_shape zero h = (refl, refl, refl)
least_shape (suc zero) h = omega arith
least_shape (suc (suc zero)) h = omega arith
least_shape (suc (suc (suc zero))) h = omega arith
least_shape (suc (suc (suc (suc zero)))) h = omega arith
least_shape (suc (suc (suc (suc (suc zero))))) h = refl
least_shape (suc (suc (suc (suc (suc (suc zero)))))) h = refl
least_shape (suc (suc (suc (suc (suc (suc (suc zero))))))) h = refl
least_shape (suc (suc (suc (suc (suc (suc (suc (suc t)))))))) h = absurd (omega arith)

least_kind_small : (t : ℕ) → least_kind t < 256
least_kind_small t = small (nat_lt 0 t && nat_lt t 5) where
  small : (b : Bool) → cond b 1 0 < 256
  small true = omega arith
  small false = omega arith

-- no payload fits each form
zero_form : (short : Bool) → FitsForm short 0
zero_form true = omega arith
zero_form false = tt

-- the least id length, where IL is set
abbrev least_id : Bool → Option ℕ
least_id there = cond there (Some 0) None

least_id_zero : (there : Bool) → unwrap_or (least_id there) 0 ≡ 0
least_id_zero true = refl
least_id_zero false = refl

least_id_there : (there : Bool) → is_some (least_id there) ≡ there
least_id_there true = refl
least_id_there false = refl

-- the least head with this header octet
abbrev least_head : ℕ → HeadFields
least_head b = record {
  first = is_set 7 b;
  last = is_set 6 b;
  chunked = is_set 5 b;
  short = is_set 4 b;
  tnf = tnf_number b;
  kind_length = least_kind (tnf_number b);
  payload_length = 0;
  id_length = least_id (is_set 3 b);
}

-- a header octet of which no condition holds is that of the least head
header_taken : (spot : Spot) (b : ℕ) → b < 256 → reason_for spot [] b ≡ None → IsViableHead spot (b ∷ [])
header_taken spot b below e =
    let r1 = skipped _ _ _ e in
    let r2 = skipped _ _ _ r1.1 in
    let r3 = skipped _ _ _ r2.1 in
    let r4 = skipped _ _ _ r3.1 in
    let r5 = skipped _ _ _ r4.1 in
    let r6 = skipped _ _ _ r5.1 in
    let r7 = skipped _ _ _ r6.1 in
    let r8 = skipped _ _ _ r7.1 in
    let r9 = skipped _ _ _ r8.1 in
    let r10 = skipped _ _ _ r9.1 in
    let t : tnf_number b < 8 = omega arith in
    let i = least_id_there (is_set 3 b) in
    let z = least_id_zero (is_set 3 b) in
    let stands : MayOccur spot (least_head b) = record {
      spelled = record { tnf = t; kind = least_kind_small (tnf_number b); payload = omega arith; form = zero_form (is_set 4 b); id = rw z (omega arith) };
      read = read_from spot.profile (tnf_number b) t r1.0;
      shape = rw z (least_shape (tnf_number b) t);
      begins = same_flag _ _ r2.0 r3.0;
      outside = λ o. (
        eqb-false (tnf_number b) 6 (false_of_and _ _ r4.0 (ap not o)),
        (λ c. eqb-false (tnf_number b) 0 (false_of_and _ _ (false_of_and _ _ r8.0 (ap not o)) c)),
      );
      inside = λ o. (
        eqb-true (tnf_number b) 6 (not-false _ (false_of_and _ _ r5.0 o)),
        ap least_id (false_of_and _ _ r6.0 o),
      );
      chunked = λ c. (false_of_and _ _ r7.0 c, false_of_and _ _ r9.0 c);
      followed = λ c l. false_of_and _ _ (false_of_and _ _ r10.0 (ap not c)) (ap not l);
      room = omega arith;
    } in
    let after : List ℕ = least_kind (tnf_number b) ∷ (payload_length_octets (is_set 4 b) 0 ++ id_length_octets (least_id (is_set 3 b))) in (
      least_head b,
      record {
        stands = stands;
        rest = after;
        spelled = ap (λ n. n ∷ after) (ap (λ s. header_octet (is_set 7 b) (is_set 6 b) (is_set 5 b) (is_set 4 b) s (tnf_number b)) i ∙ sym (octet_of_parts b below));
      },
    )

-- ---- a head with one length changed

-- the head h with another payload length
with_payload : (spot : Spot) (h : HeadFields) (n : ℕ) → MayOccur spot h → h.tnf ≢ 0 → n < 2 ^ 32 → FitsForm h.short n → n ≤ spot.room
    → MayOccur spot (record h { payload_length = n })
with_payload spot h n s not_empty below form small = record {
  spelled = record { tnf = s.spelled.tnf; kind = s.spelled.kind; payload = below; form = form; id = s.spelled.id };
  read = s.read;
  shape = other_payload h.tnf s.spelled.tnf _ _ _ n s.shape not_empty;
  begins = s.begins;
  outside = s.outside;
  inside = s.inside;
  chunked = s.chunked;
  followed = s.followed;
  room = small;
}

-- a number that is not found to differ from 0 is 0
zero_from_test : (k : ℕ) → not (k == 0) ≡ false → k ≡ 0
zero_from_test k e = eqb-true k 0 (not-false _ e)

-- a type length of which no condition holds has a shape
kind_shape : (t : ℕ) → t < 8 → (k i n m : ℕ) → HasShape (tnf_of t) k i n → (nat_lt 4 t && not (m == 0)) ≡ false
    → ((nat_lt 0 t && nat_lt t 5) && m == 0) ≡ false → (t == 0 && not (m == 0)) ≡ false → HasShape (tnf_of t) m i n
kind_shape t h k i n m s e f g =
    elim (sort t h) [
      | empty z ↦
          let s' = rw z at s in
          let m' = zero_from_test m (false_of_and _ _ g (eq-eqb t 0 z)) in
          rw z (m', s'.1, s'.2)
      | named a b w ↦
          let x = false_of_and _ _ f (and_from _ _ (lt-ltb 0 t a) (lt-ltb t 5 b)) in
          let y = eqb-false m 0 x in
          (w m i n).1 (omega (arith, y))
      | unnamed a w ↦ (w m i n).1 (zero_from_test m (false_of_and _ _ e (lt-ltb 4 t a)))
    ]

-- the head h goes on with another type length of which no condition holds
kind_taken : (spot : Spot) (h : HeadFields) (b : ℕ) → MayOccur spot h → b < 256 → reason_for spot (header h ∷ []) b ≡ None → IsViableHead spot (header h ∷ b ∷ [])
kind_taken spot h b s below e =
    let p = (header_parts h s.spelled.tnf).tnf in
    let e' = rw p at e in
    let r1 = skipped _ _ _ e' in
    let r2 = skipped _ _ _ r1.1 in
    let r3 = skipped _ _ _ r2.1 in (
      record h { kind_length = b },
      record {
        stands = record {
          spelled = record { tnf = s.spelled.tnf; kind = below; payload = s.spelled.payload; form = s.spelled.form; id = s.spelled.id };
          read = s.read;
          shape = kind_shape h.tnf s.spelled.tnf _ _ _ b s.shape r1.0 r2.0 r3.0;
          begins = s.begins;
          outside = s.outside;
          inside = s.inside;
          chunked = s.chunked;
          followed = s.followed;
          room = s.room;
        };
        rest = _;
        spelled = refl;
      },
    )

-- the head h with another payload length, whose octets begin alike
other_length : (spot : Spot) (h : HeadFields) (ls : List ℕ) (n : ℕ) → MayOccur spot h → h.tnf ≢ 0 → AreOctets ls → length ls ≤ octet_count h.short
    → least_from (octet_count h.short) ls ≤ n → n ≤ greatest_from (octet_count h.short) ls → n ≤ spot.room
    → BeginsHead spot (header h ∷ h.kind_length ∷ ls) (record h { payload_length = n })
other_length spot h ls n s t o l p q small =
    let f = fits_form h.short n ls l o q in
    let w = has h.short n ls l o p q in
    record {
      stands = with_payload spot h n s t f.1 f.0 small;
      rest = w.0 ++ id_length_octets h.id_length;
      spelled = ap (λ x. header h ∷ h.kind_length ∷ x) (ap (λ x. x ++ id_length_octets h.id_length) w.1 ∙ append_assoc ls w.0 (id_length_octets h.id_length));
    }

-- some head goes on with an octet of PAYLOAD_LENGTH of which no condition holds
length_taken : (spot : Spot) (h : HeadFields) (ls m : List ℕ) (a b : ℕ) → MayOccur spot h → b < 256 → length_part h ≡ ls ++ a ∷ m
    → reason_for spot (header h ∷ h.kind_length ∷ ls) b ≡ None → IsViableHead spot (header h ∷ h.kind_length ∷ (ls ++ b ∷ []))
length_taken spot h ls m a b s below e none =
    let l = length_octets h.short h.payload_length s.spelled.form in
    let o : AreOctets (ls ++ a ∷ m) = subst AreOctets e l.1 in
    let o' : AreOctets (ls ++ b ∷ []) = octets_append ls (b ∷ []) (octets_front ls (a ∷ m) o) (below, tt) in
    let n : length (ls ++ b ∷ []) ≤ octet_count h.short = omega (arith, length-append ls (a ∷ m), length-append ls (b ∷ []), ap length e, l.0) in
    let none' = rw (in_length h ls m a s.spelled e, (header_parts h s.spelled.tnf).tnf, width_of h s.spelled.tnf) at none in
    let r1 = skipped _ _ _ none' in
    let r2 = skipped _ _ _ r1.1 in
    elim (eqb_tells h.tnf 0) [
      | inl z ↦
          let zb : b ≡ 0 = zero_from_test b (false_of_and _ _ r1.0 z.0) in
          let za : a ≡ 0 = zero_octet h.short ls m a (ap (payload_length_octets h.short) (sym (empty_lengths h.tnf _ _ _ s.shape z.1).1) ∙ e) in (
            h,
            record {
              stands = s;
              rest = m ++ id_length_octets h.id_length;
              spelled = ap (λ x. header h ∷ h.kind_length ∷ x)
                  (ap (λ x. x ++ id_length_octets h.id_length) (e ∙ ap (λ y. ls ++ y ∷ m) (za ∙ sym zb) ∙ sym (append_assoc ls (b ∷ []) m))
                  ∙ append_assoc (ls ++ b ∷ []) m (id_length_octets h.id_length));
            },
          )
      | inr z ↦ (
        _,
        other_length spot h (ls ++ b ∷ []) (least_from (octet_count h.short) (ls ++ b ∷ [])) s z.1 o' n (omega arith) (least_below h.short (ls ++ b ∷ []) n)
            (ltb-false _ _ r2.0),
      )
    ]

-- an id length of which no condition holds has a shape
id_shape : (t : ℕ) → t < 8 → (k i n b : ℕ) → HasShape (tnf_of t) k i n → (t == 0 && not (b == 0)) ≡ false → HasShape (tnf_of t) k b n
id_shape t h k i n b s e =
    elim (sort t h) [
      | empty z ↦
          let s' = rw z at s in
          let b' = zero_from_test b (false_of_and _ _ e (eq-eqb t 0 z)) in
          rw z (s'.0, b', s'.2)
      | named x y w ↦ (w k b n).1 ((w k i n).0 s)
      | unnamed x w ↦ (w k b n).1 ((w k i n).0 s)
    ]

-- the head h goes on with another id length of which no condition holds
id_taken : (spot : Spot) (h : HeadFields) (a b : ℕ) → MayOccur spot h → b < 256 → h.id_length ≡ Some a
    → reason_for spot (header h ∷ h.kind_length ∷ length_part h) b ≡ None → IsViableHead spot (header h ∷ h.kind_length ∷ (length_part h ++ b ∷ []))
id_taken spot h a b s below e none =
    let none' = rw (past_length h s.spelled, (header_parts h s.spelled.tnf).tnf) at none in
    let r1 = skipped _ _ _ none' in (
      record h { id_length = Some b },
      record {
        stands = record {
          spelled = record { tnf = s.spelled.tnf; kind = s.spelled.kind; payload = s.spelled.payload; form = s.spelled.form; id = below };
          read = s.read;
          shape = id_shape h.tnf s.spelled.tnf _ _ _ b s.shape r1.0;
          begins = s.begins;
          outside = s.outside;
          inside = λ i. (let n = (s.inside i).1 in cc);
          chunked = s.chunked;
          followed = s.followed;
          room = s.room;
        };
        rest = [];
        spelled = ap (λ i. header_octet h.first h.last h.chunked h.short i h.tnf ∷ h.kind_length ∷ (length_part h ++ b ∷ [])) (sym (ap is_some e)) ∙ sym (append-nil _);
      },
    )

-- ---- any octet

-- where no condition holds of the octet after an open front, some head goes on with it
pub taken : (spot : Spot) (xs : List ℕ) (b : ℕ) → IsOpen spot xs → b < 256 → reason_for spot xs b ≡ None → IsViableHead spot (xs ++ b ∷ [])
taken spot xs b o below none =
    elim (stage o.fields xs o.rest o.next o.spelled) [
      | at_header x y ↦
          let none' = rw x at none in
          rw x (header_taken spot b below none')
      | at_kind x y ↦
          let none' = rw x at none in
          rw x (kind_taken spot o.fields b o.stands below none')
      | at_length ls m x y ↦
          let none' = rw x at none in
          rw x (length_taken spot o.fields ls m o.next b o.stands below y none')
      | at_id x y ↦
          let none' = rw x at none in
          rw x (id_taken spot o.fields o.next b o.stands below y none')
    ]

-- both ways
pub conditions_are_exact : ConditionsAreExact
conditions_are_exact spot xs b below o = (
  (λ e. taken spot xs b o below e),
  (λ v. allowed spot v.0 xs v.1.rest b v.1.stands (v.1.spelled ∙ append_assoc xs (b ∷ []) v.1.rest)),
)
