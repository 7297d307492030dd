-- The payload lengths of the heads that go on.
use Rattle.std.proofs.Common.{◌≡◌, ◌≢◌, ℕ, ◌^◌, ◌<◌, ◌≤◌, Bool, true, false, refl, sym, ◌∙◌, ap, subst, arith, List, [], ◌∷◌, None}
use Rattle.std.specs.Prelude.{unwrap_or}
use Rattle.std.proofs.lemmas.List.{append-nil}
use Rattle.ndef_format.specs.Records.{HeadFields, octets, HasShape, tnf_of}
use Rattle.ndef_piece.specs.declared.head.Head.{Head}
use Rattle.ndef_format.specs.declared.spot.Spot.{Spot}
use Rattle.ndef_piece.specs.Bounds.{IsIn}
use Rattle.ndef_format.specs.Positions.{MayOccur, IsOpen}
use Rattle.ndef_piece.specs.Heads.{IsWholeHead, BeginsHead, IsRange}
use Rattle.ndef_piece.specs.Ranges.{range_of}
use Rattle.ndef_piece.proofs.Apart.{only_head}
use Rattle.ndef_value.specs.TnfLaws.{read_by_all}
use Rattle.ndef_piece.proofs.Boxes.{open_bounds}

-- a last piece in the long form, unknown or unchanged
abbrev pub any_tnf : Bool → ℕ
any_tnf true = 6
any_tnf false = 5

abbrev pub any_head : Spot → ℕ → HeadFields
any_head spot n = record {
  first = spot.first;
  last = true;
  chunked = false;
  short = false;
  tnf = any_tnf spot.inside;
  kind_length = 0;
  payload_length = n;
  id_length = None;
}

any_shape : (i : Bool) (n : ℕ) → HasShape (tnf_of (any_tnf i)) 0 0 n
any_shape true n = refl
any_shape false n = refl

any_small : (i : Bool) → any_tnf i < 7
any_small true = omega arith
any_small false = omega arith

any_outside : (i : Bool) → i ≡ false → any_tnf i ≢ 6
any_outside true e f = cc
any_outside false e f = (let z : 5 ≡ 6 = f in omega arith)

any_inside : (i : Bool) → i ≡ true → any_tnf i ≡ 6
any_inside true e = refl
any_inside false e = cc

-- a head that may stand at the spot, with a payload length that has room
pub any_stands : (spot : Spot) (n : ℕ) → n < 2 ^ 32 → n ≤ spot.room → MayOccur spot (any_head spot n)
any_stands spot n below small =
    let t = any_small spot.inside in
    record {
      spelled = record { tnf = omega (arith, t); kind = omega arith; payload = below; form = tt; id = omega arith };
      read = read_by_all spot.profile _ t;
      shape = any_shape spot.inside n;
      begins = refl;
      outside = λ o. (any_outside spot.inside o, λ c. cc);
      inside = λ i. (any_inside spot.inside i, refl);
      chunked = λ c. cc;
      followed = λ c l. cc;
      room = small;
    }

-- ---- the payload lengths that are left

open_begins : (spot : Spot) (xs : List ℕ) (o : IsOpen spot xs) → BeginsHead spot xs o.fields
open_begins spot xs o = record { stands = o.stands; rest = o.next ∷ o.rest; spelled = o.spelled }

-- before the header octet every payload length that has room is left
start_range : (spot : Spot) → spot.room < 2 ^ 32 → IsRange spot [] (0, spot.room)
start_range spot room n = (
  (λ w. let r = w.1.stands.room in let f = w.2 in (omega arith, omega arith)),
  (λ w. (any_head spot n, record { stands = any_stands spot n (omega arith) (omega arith); rest = octets (any_head spot n); spelled = refl }, refl)),
)

-- after an open front those within its bounds
pub open_range : (spot : Spot) (xs : List ℕ) → spot.room < 2 ^ 32 → IsOpen spot xs → IsRange spot xs (range_of spot xs)
open_range spot [] room o = start_range spot room
open_range spot (x ∷ xs) room o =
    let b = open_bounds spot x xs o in
    let h = b.sound o.fields (open_begins spot (x ∷ xs) o) in
    λ n. (
      (λ w. subst (λ k. IsIn k (range_of spot (x ∷ xs))) w.2 (b.sound w.0 w.1).payload),
      (λ r.
          let f = b.full o.fields.kind_length (unwrap_or o.fields.id_length 0) n h.kind h.id r in
          (f.0, f.1, f.4)),
    )

-- after a whole head its own payload length is left
pub whole_range : (spot : Spot) (xs : List ℕ) (g : Head) → IsWholeHead spot xs g → IsRange spot xs (g.payload_length, g.payload_length)
whole_range spot xs g w n =
    let k : w.fields.payload_length ≡ g.payload_length = ap (λ x. x.payload_length) w.read in (
      (λ v.
          let e : v.0.payload_length ≡ w.fields.payload_length = ap (λ x. x.payload_length) (only_head spot xs g w v.0 v.1).0 in
          let f = v.2 in
          (omega (arith, e, k), omega (arith, e, k))),
      (λ v. (w.fields, record { stands = w.stands; rest = []; spelled = w.spelled ∙ sym (append-nil xs) }, omega (arith, k))),
    )
