-- How long a message within its limits can be.
use Rattle.std.proofs.Common.{◌≡◌, ℕ, suc, ◌+◌, ◌*◌, ◌≤◌, Bool, true, false, refl, sym, ◌∙◌, ap, arith, List, [], ◌∷◌, ◌++◌, length, Option, Some, None, length-append, append_assoc}
use Rattle.std.specs.Prelude.{unwrap_or}
use Rattle.std.specs.Option.{option_map}
use Rattle.std.specs.List.{AllByRecursion}
use Rattle.std.proofs.Math.Nat.{mul-le-mul_right}
use Rattle.ndef_format.specs.Records.{payload_length_octets, id_length_octets, octets, fields, body, Piece, SpellsPiece, Run, Follow, IsRun, pieces}
use Rattle.ndef_format.specs.Messages.{all_pieces, payload_of, SpellsPieces}
use Rattle.ndef_format.specs.Laws.{MessagesAreBounded}
use Rattle.ndef_format.specs.declared.profile.Profile.{Profile}

pub length_octets_few : (short : Bool) (n : ℕ) → length (payload_length_octets short n) ≤ 4
length_octets_few true n = omega arith
length_octets_few false n = omega arith

id_octet : (id : Option ℕ) → length (id_length_octets id) ≤ 1
id_octet None = omega arith
id_octet (Some n) = omega arith

-- the octets of a piece beside its payload
piece_length : (p : Piece) (short : Bool) (bytes : List ℕ) → SpellsPiece p short bytes
    → length bytes ≤ 7 + length p.kind + length (unwrap_or p.id []) + length p.payload
piece_length p short bytes s =
    let head = length-append (payload_length_octets short (length p.payload)) (id_length_octets (option_map length p.id)) in
    let some = length_octets_few short (length p.payload) in
    let one = id_octet (option_map length p.id) in
    let rest = length-append (unwrap_or p.id []) p.payload in
    let all = length-append p.kind (unwrap_or p.id [] ++ p.payload) in
    let whole = length-append (octets (fields p short)) (body p) in
    let e = ap length s.spelled in
    omega arith

-- a piece without type and id has a head of at most six octets
later_length : (p : Piece) (short : Bool) (bytes : List ℕ) → p.kind ≡ [] → p.id ≡ None → SpellsPiece p short bytes → length bytes ≤ 6 + length p.payload
later_length p short bytes k i s =
    let head = length-append (payload_length_octets short (length p.payload)) (id_length_octets (option_map length p.id)) in
    let some = length_octets_few short (length p.payload) in
    let none : length (id_length_octets (option_map length p.id)) ≡ 0 = ap (λ o. length (id_length_octets (option_map length o))) i in
    let no_id : length (unwrap_or p.id []) ≡ 0 = ap (λ o. length (unwrap_or o [])) i in
    let no_kind : length p.kind ≡ 0 = ap length k in
    let rest = length-append (unwrap_or p.id []) p.payload in
    let all = length-append p.kind (unwrap_or p.id [] ++ p.payload) in
    let whole = length-append (octets (fields p short)) (body p) in
    let e = ap length s.spelled in
    omega arith

-- the pieces of two lists, spelled one list after the other
pub split : (ps qs : List Piece) (bytes : List ℕ) → SpellsPieces (ps ++ qs) bytes
    → (front rest : List ℕ) × (bytes ≡ front ++ rest) × SpellsPieces ps front × SpellsPieces qs rest
split [] qs bytes s = ([], bytes, refl, refl, s)
split (p ∷ ps) qs bytes s =
    let w = split ps qs s.2 s.5 in
    (s.1 ++ w.0, w.1, s.3 ∙ ap (λ z. s.1 ++ z) w.2 ∙ sym (append_assoc s.1 w.0 w.1), (s.0, s.1, w.0, refl, s.4, w.3), w.4)

later_lengths : (chunked : Bool) (ps : List Piece) (bytes : List ℕ) → Follow chunked ps → SpellsPieces ps bytes
    → length bytes ≤ 6 * length ps + length (payload_of ps)
later_lengths chunked [] bytes f s = let e = ap length s in omega arith
later_lengths chunked (p ∷ ps) bytes f s =
    let here = later_length p s.0 s.1 f.1.kind f.1.id s.4 in
    let more = later_lengths p.chunked ps s.2 f.2 s.5 in
    let e = ap length s.3 ∙ length-append s.1 s.2 in
    let all = length-append p.payload (payload_of ps) in
    omega arith

run_length : (profile : Profile) (r : Run) (bytes : List ℕ) → IsRun profile r → SpellsPieces (pieces r) bytes
    → length bytes ≤ 6 * length (pieces r) + 511 + length (payload_of (pieces r))
run_length profile r bytes i s =
    let here = piece_length r.initial s.0 s.1 s.4 in
    let kind = s.4.piece.kind_length in
    let id = s.4.piece.id_length in
    let more = later_lengths r.initial.chunked r.later s.2 i.follow s.5 in
    let e = ap length s.3 ∙ length-append s.1 s.2 in
    let all = length-append r.initial.payload (payload_of r.later) in
    omega arith

one_more : (a b n size : ℕ) → a ≤ size → b ≤ n * size → a + b ≤ suc n * size
one_more a b n size h k = omega arith

runs_length : (profile : Profile) (most size : ℕ) (rs : List Run) (bytes : List ℕ) → AllByRecursion (IsRun profile) rs
    → AllByRecursion (λ r. length (pieces r) ≤ most) rs → AllByRecursion (λ r. length (payload_of (pieces r)) ≤ size) rs
    → SpellsPieces (all_pieces rs) bytes → length bytes ≤ length rs * (6 * most + 511 + size)
runs_length profile most size [] bytes i p n s = let e = ap length s in omega arith
runs_length profile most size (r ∷ rs) bytes i p n s =
    let w = split (pieces r) (all_pieces rs) bytes s in
    let here = run_length profile r w.0 i.0 w.3 in
    let more = runs_length profile most size rs w.1 i.1 p.1 n.1 w.4 in
    let few = p.0 in
    let small = n.0 in
    let fits : length w.0 ≤ 6 * most + 511 + size = omega arith in
    let e = ap length w.2 ∙ length-append w.0 w.1 in
    rw e (one_more (length w.0) (length w.1) (length rs) (6 * most + 511 + size) fits more)

pub messages_are_bounded : MessagesAreBounded
messages_are_bounded limits runs m bytes f w =
    let here = runs_length limits.profile limits.pieces limits.payload runs bytes f.message.each_run w.few_pieces w.small f.spelled in
    let most = mul-le-mul_right (6 * limits.pieces + 511 + limits.payload) w.few_records in
    omega (arith, here, most)
