-- The fields of a head in its octets.
use Rattle.std.proofs.Common.{◌≡◌, ℕ, ◌+◌, Bool, true, false, cond, refl, sym, ◌∙◌, ap, arith, List, ◌∷◌, ◌++◌, length, take, Option, Some, None}
use Rattle.std.specs.Prelude.{is_some, slice_index}
use Rattle.std.proofs.lemmas.List.{take-append-le}
use Rattle.std.proofs.Math.Seq.{take-length}
use Rattle.ndef_format.specs.Records.{HeadFields, code, octets, tnf_of, payload_length_octets, id_length_octets}
use Rattle.ndef_format.specs.declared.tnf.Tnf.{Tnf}
use Rattle.ndef_piece.specs.declared.head.Head.{Head}
use Rattle.ndef_format.specs.declared.tnf.Tnf.TheVariants.{Empty, WellKnown, Media, AbsoluteUri, External, Unknown, Unchanged}
use Rattle.ndef_format.specs.declared.spot.Spot.{Spot}
use Rattle.ndef_piece.specs.Heads.{head, written_fields, IsWholeHead}
use Rattle.ndef_format.specs.Positions.{CanBeSpelled, MayOccur}
use Rattle.ndef_format.specs.HeadReasons.{is_set, tnf_number, width, least_from}
use Rattle.ndef_piece.specs.Ranges.{length_front}
use Rattle.ndef_piece.proofs.Lengths.{octet_count, length_octets, whole_number}
use Rattle.ndef_piece.specs.HeaderLaws.{header, header_parts}
use Rattle.ndef_piece.proofs.Stages.{length_part}
use Rattle.ndef_piece.proofs.Sizes.{width_of}

-- the octets of the payload length stand after the type length
front_of : (h : HeadFields) → CanBeSpelled h → length_front (octets h) ≡ length_part h
front_of h l =
    let n = (length_octets h.short h.payload_length l.form).0 in
    rw (width_of h l.tnf) (ap (λ n. take n (length_part h ++ id_length_octets h.id_length)) (sym n)
    ∙ take-append-le (length (length_part h)) (length_part h) (id_length_octets h.id_length) (omega arith)
    ∙ take-length (length_part h))

-- the octet after PAYLOAD_LENGTH, where there is one
id_at : (short : Bool) (n : ℕ) (o : Option ℕ) (x k : ℕ)
    → cond (is_some o) (Some (slice_index (x ∷ k ∷ (payload_length_octets short n ++ id_length_octets o)) (2 + octet_count short))) None ≡ o
id_at true n None x k = refl
id_at true n (Some d) x k = refl
id_at false n None x k = refl
id_at false n (Some d) x k = refl

-- it is the id length
id_of : (h : HeadFields) → CanBeSpelled h → cond (is_set 3 (header h)) (Some (slice_index (octets h) (2 + width (header h)))) None ≡ h.id_length
id_of h l = rw ((header_parts h l.tnf).id_there, (header_parts h l.tnf).short) (id_at h.short h.payload_length h.id_length (header h) h.kind_length)

-- a head of the parts that its octets give is the head
pub read_back : (h : HeadFields) (xs : List ℕ) → CanBeSpelled h → octets h ≡ xs
    → (first last chunked short : Bool) (t : Tnf) (k n : ℕ) (i : Option ℕ)
    → first ≡ is_set 7 (slice_index xs 0) → last ≡ is_set 6 (slice_index xs 0) → chunked ≡ is_set 5 (slice_index xs 0) → short ≡ is_set 4 (slice_index xs 0)
    → t ≡ tnf_of (tnf_number (slice_index xs 0)) → k ≡ slice_index xs 1
    → n ≡ least_from (width (slice_index xs 0)) (length_front xs)
    → i ≡ cond (is_set 3 (slice_index xs 0)) (Some (slice_index xs (2 + width (slice_index xs 0)))) None
    → ◌≡◌ {A = Head} (record { first = first; last = last; chunked = chunked; short = short; tnf = t; kind_length = k; payload_length = n; id_length = i }) (head h)
read_back h xs l e first last chunked short t k n i p1 p2 p3 p4 p5 p6 p7 p8 =
    let p = header_parts h l.tnf in
    let q1 : first ≡ h.first = p1 ∙ ap (λ x. is_set 7 (slice_index x 0)) (sym e) ∙ p.begins in
    let q2 : last ≡ h.last = p2 ∙ ap (λ x. is_set 6 (slice_index x 0)) (sym e) ∙ p.ends in
    let q3 : chunked ≡ h.chunked = p3 ∙ ap (λ x. is_set 5 (slice_index x 0)) (sym e) ∙ p.chunked in
    let q4 : short ≡ h.short = p4 ∙ ap (λ x. is_set 4 (slice_index x 0)) (sym e) ∙ p.short in
    let q5 : t ≡ tnf_of h.tnf = p5 ∙ ap (λ x. tnf_of (tnf_number (slice_index x 0))) (sym e) ∙ ap tnf_of p.tnf in
    let q6 : k ≡ h.kind_length = p6 ∙ ap (λ x. slice_index x 1) (sym e) in
    let q7 : n ≡ h.payload_length = p7 ∙ ap (λ x. least_from (width (slice_index x 0)) (length_front x)) (sym e)
    ∙ ap (least_from (width (header h))) (front_of h l) ∙ ap (λ w. least_from w (length_part h)) (width_of h l.tnf)
    ∙ (whole_number h.short h.payload_length l.payload l.form).0 in
    let q8 : i ≡ h.id_length = p8 ∙ ap (λ x. cond (is_set 3 (slice_index x 0)) (Some (slice_index x (2 + width (slice_index x 0)))) None) (sym e) ∙ id_of h l in
    rw (q1, q2, q3, q4, q5, q6, q7, q8) refl

-- ---- a head that is written

-- the number of a type name format stands for it
same_name : (t : Tnf) → tnf_of (code t) ≡ t
same_name Empty = refl
same_name WellKnown = refl
same_name Media = refl
same_name AbsoluteUri = refl
same_name External = refl
same_name Unknown = refl
same_name Unchanged = refl

-- what is written is read as the head
written_head : (h : Head) → head (written_fields h) ≡ h
written_head h = rw (same_name h.tnf) refl

-- wherever it may stand
pub written_is_read : (spot : Spot) (h : Head) → MayOccur spot (written_fields h) → IsWholeHead spot (octets (written_fields h)) h
written_is_read spot h m = record { fields = written_fields h; stands = m; spelled = refl; read = written_head h }
