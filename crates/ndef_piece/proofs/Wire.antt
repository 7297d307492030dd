-- A piece begins wherever as many octets have come as its lengths say.
use Rattle.std.proofs.Common.{◌≡◌, ℕ, zero, suc, ◌+◌, ◌-◌, ◌^◌, ◌<◌, ◌≤◌, Bool, true, false, refl, sym, ◌∙◌, ap, ap₂, subst, arith, List, [], ◌∷◌, ◌++◌, length, take, drop, take_at, drop_at, length-append, length-drop, length-take-le, Some, None, inl, inr}
use Rattle.std.specs.Prelude.{slice_index, if◌then◌else◌}
use Rattle.std.proofs.lemmas.Bool.{cases_lt}
use Rattle.std.proofs.lemmas.List.{get_or-drop, take-append-drop}
use Rattle.std.proofs.lemmas.Nat.{be_bytes_4}
use Rattle.ndef_value.specs.SliceLaws.{after_drop, octet_at, octets_drop, rest_from}
use Rattle.ndef_format.specs.HeadReasons.{is_set, width}
use Rattle.ndef_format.specs.Records.{AreOctets, FitsForm, id_length_octets, payload_length_octets}
use Rattle.ndef_piece.specs.Come.{HasParts, come, fronts, id_given, id_length_width, payload_length_at, size_come}
use Rattle.ndef_piece.specs.ComeLaws.{fronts_begun, same_front, spelled_first, whole_come}
use Rattle.ndef_piece.specs.Whole.{BeginWithPiece, IsSplit}
use Rattle.ndef_piece.specs.declared.front.PieceFront.{PieceFront}
use Rattle.ndef_piece.proofs.WholePieces.{id_is, whole_from}

pub record Lengths (short : Bool) (s : List ℕ) : Type 0 where
  pub small : payload_length_at short s < 2 ^ 32
  pub form : FitsForm short (payload_length_at short s)
  pub spelled : take (if short then 1 else 4) (drop 2 s) ≡ payload_length_octets short (payload_length_at short s)

lengths_there : (short : Bool) (s : List ℕ) → AreOctets s → 2 + (if short then 1 else 4) ≤ length s → Lengths short s
lengths_there true [] all h = absurd (omega arith)
lengths_there true (a ∷ []) all h = absurd (omega arith)
lengths_there true (a ∷ b ∷ []) all h = absurd (omega arith)
lengths_there true (a ∷ b ∷ c ∷ s) all h =
    let o : c < 256 = all.1.1.0 in record { small = omega (arith, o); form = o; spelled = refl }
lengths_there false [] all h = absurd (omega arith)
lengths_there false (a ∷ []) all h = absurd (omega arith)
lengths_there false (a ∷ b ∷ []) all h = absurd (omega arith)
lengths_there false (a ∷ b ∷ c ∷ []) all h = absurd (omega arith)
lengths_there false (a ∷ b ∷ c ∷ d ∷ []) all h = absurd (omega arith)
lengths_there false (a ∷ b ∷ c ∷ d ∷ e ∷ []) all h = absurd (omega arith)
lengths_there false (a ∷ b ∷ c ∷ d ∷ e ∷ f ∷ s) all h =
    let o = all.1.1 in
    let oc : c < 256 = o.0 in
    let od : d < 256 = o.1.0 in
    let oe : e < 256 = o.1.1.0 in
    let of : f < 256 = o.1.1.1.0 in
    record {
      small = omega (arith, oc, od, oe, of);
      form = tt;
      spelled = sym (be_bytes_4 (c ∷ d ∷ e ∷ f ∷ []) _ refl (λ i. octet_at (c ∷ d ∷ e ∷ f ∷ []) i (oc, (od, (oe, (of, tt))))) refl);
    }

id_clear : (there : Bool) (n : ℕ) → there ≡ false → (if there then n else 0) ≡ 0
id_clear false n e = refl
id_clear true n e = absurd (let h : true ≡ false = e in cc)

id_spelled : (there : Bool) (n : ℕ) (r : List ℕ) → (if there then 1 else 0) ≤ length r → slice_index r 0 ≡ n
    → r ≡ id_length_octets (if there then Some (if there then n else 0) else None) ++ drop (if there then 1 else 0) r
id_spelled false n r h e = refl
id_spelled true n [] h e = absurd (omega arith)
id_spelled true n (b ∷ r) h e = ap (λ x. x ∷ r) e

pub begins : (s : List ℕ) → AreOctets s → size_come s ≤ length s → BeginWithPiece s
unfolding size_come
begins s all l =
    let h = slice_index s 0 in
    let t = drop 2 s in
    let short = is_set 4 h in
    let there = is_set 3 h in
    let k = slice_index s 1 in
    let n = payload_length_at short s in
    let i = id_given h t in
    let r1 = drop (width h) t in
    let r2 = drop (id_length_width h) r1 in
    let r3 = drop k r2 in
    let r4 = drop i r3 in
    let z = length-drop 2 s in
    let l1 = length-drop (width h) t in
    let l2 = length-drop (id_length_width h) r1 in
    let l3 = length-drop k r2 in
    let l4 = length-drop i r3 in
    let c = lengths_there short s all (omega (arith, l)) in
    let e1 : rest_from 2 s ≡ payload_length_octets short n ++ r1 =
    after_drop 2 s ∙ sym (take-append-drop (width h) t) ∙ ap (λ x. x ++ r1) c.spelled in
    let first : slice_index r1 0 ≡ slice_index t (width h) = get_or-drop (width h) t 0 0 ∙ ap (slice_index t) (let w : width h + 0 ≡ width h = omega arith in w) in
    record {
      piece = _;
      short = _;
      rest = drop n r4;
      split =
          whole_from s all (omega (arith, l)) n i r1 r2 (take k r2) r3 (take i r3) r4 (take n r4) (drop n r4) c.small c.form e1
          (id_spelled there (slice_index t (width h)) r1 (omega (arith, l, z, l1)) first)
          (id_clear there (slice_index t (width h)))
          (length-take-le k r2 (omega (arith, l, z, l1, l2)))
          (sym (take-append-drop k r2))
          (length-take-le i r3 (omega (arith, l, z, l1, l2, l3)))
          (sym (take-append-drop i r3))
          (length-take-le n r4 (omega (arith, l, z, l1, l2, l3, l4)))
          (sym (take-append-drop n r4));
    }

-- ---- the piece at the front
pub whole_parts : (f : PieceFront) (rest s : List ℕ) → s ≡ f.octets.now ++ rest → IsSplit (come f) (is_set 4 f.header) rest s
    → (is_set 3 f.header ≡ false → f.id.now ≡ []) → HasParts f.octets.now f
whole_parts f rest s e i none =
    let c = whole_come (come f) (is_set 4 f.header) i.front i.spells in
    subst (λ x. HasParts x f) (same_front i.front f.octets.now rest s i.joined e)
    (record { kind = sym c.kind_is; id = sym (id_is (is_set 3 f.header) f.id.now none) ∙ sym c.id_is; payload = sym c.content_is })

pub begun_first : (s : List ℕ) → AreOctets s → ¬ BeginWithPiece s → 0 < length s → fronts s ≡ s ∷ fronts []
begun_first s all h some =
    elim (cases_lt (length s) (size_come s)) as (λ v. fronts s ≡ s ∷ fronts []) [
      | inl l ↦ fronts_begun s some (omega (arith, l))
      | inr l ↦ absurd (h (begins s all l))
    ]

pub whole_first : (f : PieceFront) (rest s : List ℕ) → s ≡ f.octets.now ++ rest → IsSplit (come f) (is_set 4 f.header) rest s
    → fronts s ≡ f.octets.now ∷ fronts rest
whole_first f rest s e i =
    ap fronts i.joined
    ∙ spelled_first (come f) (is_set 4 f.header) i.front rest i.spells
    ∙ ap (λ x. x ∷ fronts rest) (same_front i.front f.octets.now rest s i.joined e)
