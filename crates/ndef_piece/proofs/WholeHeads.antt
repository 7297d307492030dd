-- A whole head from its fields.
use Rattle.std.proofs.Common.{◌≡◌, ℕ, ◌+◌, ◌-◌, ◌^◌, ◌<◌, ◌≤◌, Bool, true, false, refl, sym, ◌∙◌, ap, subst, arith, List, ◌∷◌, ◌++◌, length, take, get_or, append_assoc, length-append, Some, None}
use Rattle.std.specs.Prelude.{is_some, unwrap_or, if◌then◌else◌}
use Rattle.std.specs.Bool.{then_some}
use Rattle.std.proofs.Math.Seq.{take-append_seam}
use Rattle.ndef_format.specs.Records.{FitsForm, AreOctets, octets, header_octet, payload_length_octets, id_length_octets}
use Rattle.ndef_value.specs.ListLaws.{octets_front, octets_back}
use Rattle.ndef_value.specs.SliceLaws.{rest_from, cut_two, octet_at, octets_after}
use Rattle.ndef_format.specs.HeadReasons.{is_set}
use Rattle.ndef_piece.specs.Heads.{head}
use Rattle.ndef_format.specs.Positions.{CanBeSpelled, MayOccur}
use Rattle.ndef_piece.specs.Whole.{BeginWithHead, fields_of}
use Rattle.ndef_piece.specs.declared.head.Head.{Head}
use Rattle.ndef_format.specs.declared.spot.Spot.{Spot}
use Rattle.ndef_piece.proofs.HeaderOctet.{octet_of_parts}

-- whether an id length is there
there_is : (there : Bool) (i : ℕ) → is_some (if there then Some i else None) ≡ there
there_is true i = refl
there_is false i = refl

-- an id length is an octet
id_small : (there : Bool) (i : ℕ) → AreOctets (id_length_octets (if there then Some i else None)) → unwrap_or (if there then Some i else None) 0 < 256
id_small true i h = h.0
id_small false i h = omega arith

-- an id length that is there if a flag says so
pub then_is : (there : Bool) (i : ℕ) → then_some there i ≡ (if there then Some i else None)
then_is true i = refl
then_is false i = refl

-- its octets, one after another, are a head that may stand
pub head_from : (spot : Spot) (bytes : List ℕ) (h : Head) → AreOctets bytes → 2 ≤ length bytes → (n i : ℕ) (r1 rest : List ℕ) → n < 2 ^ 32 → FitsForm (is_set 4 (get_or bytes 0 0)) n
    → rest_from 2 bytes ≡ payload_length_octets (is_set 4 (get_or bytes 0 0)) n ++ r1 → r1 ≡ id_length_octets (if is_set 3 (get_or bytes 0 0) then Some i else None) ++ rest
    → head (fields_of (get_or bytes 0 0) (get_or bytes 1 0) i n) ≡ h
    → (CanBeSpelled (fields_of (get_or bytes 0 0) (get_or bytes 1 0) i n) → MayOccur spot (fields_of (get_or bytes 0 0) (get_or bytes 1 0) i n))
    → BeginWithHead spot bytes h (length bytes - length rest)
head_from spot bytes h all two n i r1 rest small form e1 e2 read stands =
    let header = get_or bytes 0 0 in
    let kind = get_or bytes 1 0 in
    let f = fields_of header kind i n in
    let pl = payload_length_octets (is_set 4 header) n in
    let il = id_length_octets f.id_length in
    let b0 : rest_from 2 bytes ≡ pl ++ (il ++ rest) = e1 ∙ ap (λ x. pl ++ x) e2 in
    let o0 : AreOctets (pl ++ (il ++ rest)) = subst AreOctets b0 (octets_after 2 bytes all) in
    let o1 = octets_front il rest (octets_back pl _ o0) in
    let header_is : header_octet f.first f.last f.chunked f.short (is_some f.id_length) f.tnf ≡ header =
    ap (λ t. header_octet f.first f.last f.chunked f.short t f.tnf) (there_is (is_set 3 header) i) ∙ sym (octet_of_parts header (octet_at bytes 0 all)) in
    let octets_are : octets f ≡ header ∷ kind ∷ (pl ++ il) = ap (λ x. x ∷ kind ∷ (pl ++ il)) header_is in
    let joined : bytes ≡ octets f ++ rest = sym (cut_two bytes two) ∙ ap (λ x. header ∷ kind ∷ x) (b0 ∙ sym (append_assoc pl il rest)) ∙ sym (ap (λ x. x ++ rest) octets_are) in
    let l : length bytes ≡ length (octets f) + length rest = ap length joined ∙ length-append (octets f) rest in
    let count : length bytes - length rest ≡ length (octets f) = omega (arith, l) in
    let spelled : CanBeSpelled f = record { tnf = omega arith; kind = octet_at bytes 1 all; payload = small; form = form; id = id_small (is_set 3 header) i o1 } in
    record {
      some = let k = ap length octets_are in omega (arith, l, k);
      within = omega arith;
      whole = record {
        fields = f;
        stands = stands spelled;
        spelled = sym (ap (λ k. take k bytes) count ∙ ap (λ x. take (length (octets f)) x) joined ∙ take-append_seam (octets f) rest);
        read = read;
      };
    }
