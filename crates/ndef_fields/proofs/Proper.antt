-- The octets so far of a piece, and one more, are no more than a piece has.
use Rattle.std.proofs.Common.{◌≡◌, ℕ, ◌+◌, ◌≤◌, ◌∙◌, ap, arith, List, [], ◌∷◌, ◌++◌, length, append_assoc, length-append}
use Rattle.std.specs.Prelude.{unwrap_or}
use Rattle.ndef_format.specs.Records.{HeadFields, octets}
use Rattle.ndef_format.specs.declared.spot.Spot.{Spot}
use Rattle.ndef_format.specs.Positions.{Field, InHead, InType, InId, InPayload, AtEnd, CanBeSpelled, IsOpen, IsProper, octets_so_far}
use Rattle.ndef_piece.specs.Come.{lengths_width, size_come}
use Rattle.ndef_piece.specs.ComeLaws.{head_come, size_whole}
use Rattle.ndef_piece.specs.Header.{size}
use Rattle.ndef_piece.specs.HeaderLaws.{header, octets_size}
use Rattle.ndef_piece.specs.Whole.{BeginWithPiece}
use Rattle.ndef_fields.proofs.Filled.{least}

-- a front of a head
pub short_head : (spot : Spot) (x : ℕ) (s : List ℕ) → IsOpen spot (x ∷ s) → length s + 2 ≤ 2 + lengths_width x
short_head spot x s p =
    let n = octets_size p.fields p.stands.spelled.tnf in
    let e : header p.fields ≡ x = let w = p.spelled in cc in
    let z = ap size e in
    let m = ap length p.spelled ∙ length-append (x ∷ s) (p.next ∷ p.rest) in
    omega (arith, n, z, m)

size_is : (f : HeadFields) (s z : List ℕ) → CanBeSpelled f → s ≡ octets f ++ z → length z ≤ f.kind_length + (unwrap_or f.id_length 0 + f.payload_length) → length s ≤ size_come s
size_is f s z c e l =
    let n = ap size_come e ∙ (head_come f z c).size in
    let m = ap length e ∙ length-append (octets f) z in
    omega (arith, n, m, l)

pub type_more : (f : HeadFields) (kind : List ℕ) (o : ℕ) → (octets f ++ kind) ++ o ∷ [] ≡ octets f ++ (kind ++ o ∷ [])
type_more f kind o = append_assoc (octets f) kind (o ∷ [])

pub id_more : (f : HeadFields) (kind id : List ℕ) (o : ℕ) → (octets f ++ (kind ++ id)) ++ o ∷ [] ≡ octets f ++ (kind ++ (id ++ o ∷ []))
id_more f kind id o = append_assoc (octets f) (kind ++ id) (o ∷ []) ∙ ap (λ x. octets f ++ x) (append_assoc kind id (o ∷ []))

pub content_more : (f : HeadFields) (kind id content : List ℕ) (o : ℕ) → (octets f ++ (kind ++ (id ++ content))) ++ o ∷ [] ≡ octets f ++ (kind ++ (id ++ (content ++ o ∷ [])))
content_more f kind id content o =
    append_assoc (octets f) (kind ++ (id ++ content)) (o ∷ [])
    ∙ ap (λ x. octets f ++ x) (append_assoc kind (id ++ content) (o ∷ []) ∙ ap (λ x. kind ++ x) (append_assoc id content (o ∷ [])))

-- as many octets have come, with one more, as a piece has at most
pub came : (spot : Spot) (field : Field) (o : ℕ) → IsProper spot field → length (octets_so_far field ++ o ∷ []) ≤ size_come (octets_so_far field ++ o ∷ [])
came spot (InHead []) o p = let n = least (o ∷ []) in omega (arith, n)
came spot (InHead (x ∷ s)) o p =
    let n = least (x ∷ (s ++ o ∷ [])) in let m = short_head spot x s p in let k = length-append s (o ∷ []) in omega (arith, n, m, k)
came spot (InType f kind) o p =
    let l = p.1 in let n = length-append kind (o ∷ []) in size_is f _ (kind ++ o ∷ []) p.0.stands.spelled (type_more f kind o) (omega (arith, l, n))
came spot (InId f kind id) o p =
    let l = p.1 in
    let m = p.2 in
    let n = length-append kind (id ++ o ∷ []) in
    let k = length-append id (o ∷ []) in
    size_is f _ (kind ++ (id ++ o ∷ [])) p.0.stands.spelled (id_more f kind id o) (omega (arith, l, m, n, k))
came spot (InPayload f kind id content) o p =
    let l = p.1 in
    let m = p.2 in
    let r = p.3 in
    let n = length-append kind (id ++ (content ++ o ∷ [])) in
    let k = length-append id (content ++ o ∷ []) in
    let j = length-append content (o ∷ []) in
    size_is f _ (kind ++ (id ++ (content ++ o ∷ []))) p.0.stands.spelled (content_more f kind id content o) (omega (arith, l, m, r, n, k, j))
came spot AtEnd o p = let n = least (o ∷ []) in omega (arith, n)

-- so they are not the whole of it
pub not_whole : (spot : Spot) (field : Field) → IsProper spot field → ¬ BeginWithPiece (octets_so_far field)
not_whole spot field p w =
    let s = octets_so_far field in
    let i = w.split in
    let e = ap (λ x. x ++ 0 ∷ []) i.joined ∙ append_assoc i.front w.rest (0 ∷ []) in
    let n = ap size_come e ∙ size_whole w.piece w.short i.front (w.rest ++ 0 ∷ []) i.spells in
    let m = length-append s (0 ∷ []) in
    let j = ap length i.joined ∙ length-append i.front w.rest in
    let l = came spot field 0 p in
    omega (arith, n, m, j, l)
