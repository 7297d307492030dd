-- No spelling is shorter than the canonical one.
use Rattle.std.proofs.Common.{◌≡◌, ℕ, ◌+◌, ◌*◌, ◌≤◌, Bool, true, false, refl, sym, ◌∙◌, ap, subst, arith, List, [], ◌∷◌, ◌++◌, length, map, Option, Some, None, length-append}
use Rattle.std.specs.Prelude.{unwrap_or, nat_lt}
use Rattle.std.specs.List.{flat_map}
use Rattle.std.specs.Option.{option_map}
use Rattle.std.proofs.lemmas.Bool.{lt-ltb}
use Rattle.ndef_format.specs.Records.{payload_length_octets, id_length_octets, octets, fields, body, FitsForm, Piece, Run, pieces}
use Rattle.ndef_format.specs.Messages.{all_pieces, payload_of, run_record, SpellsPieces}
use Rattle.ndef_format.specs.Canonical.{canonical, is_nil, whole_piece, whole_pieces, written_id}
use Rattle.ndef_format.specs.Laws.{CanonicalIsShortest}
use Rattle.ndef_value.specs.PieceLaws.{piece_octets}
use Rattle.ndef_value.proofs.Bounds.{length_octets_few, split}
use Rattle.ndef_value.proofs.Canonical.{same_id}

-- the form that is chosen for a length is the shortest that it fits
form_least : (n : ℕ) (short least : Bool) → nat_lt n 256 ≡ least → FitsForm short n
    → length (payload_length_octets least n) ≤ length (payload_length_octets short n)
form_least n true true e f = omega arith
form_least n true false e f = absurd (let t = lt-ltb n 256 f in cc)
form_least n false true e f = omega arith
form_least n false false e f = omega arith

form_some : (n : ℕ) (short : Bool) → 1 ≤ length (payload_length_octets short n)
form_some n true = omega arith
form_some n false = omega arith

-- an empty id isn't written
id_least : (id : Option (List ℕ)) → length (id_length_octets (option_map length (written_id (unwrap_or id [])))) ≤ length (id_length_octets (option_map length id))
id_least None = omega arith
id_least (Some []) = omega arith
id_least (Some (x ∷ xs)) = omega arith

-- the canonical spelling of a piece
abbrev canon : Piece → List ℕ
canon p = octets (fields p (nat_lt (length p.payload) 256)) ++ body p

-- each piece has three octets more than its payload
later_least : (ps : List Piece) (bytes : List ℕ) → SpellsPieces ps bytes → 3 * length ps + length (payload_of ps) ≤ length bytes
later_least [] bytes s = omega arith
later_least (p ∷ ps) bytes s =
    let more = later_least ps s.2 s.5 in
    let e = ap length s.3 ∙ length-append s.1 s.2 in
    let here = ap length s.4.spelled ∙ piece_octets p s.0 in
    let one = form_some (length p.payload) s.0 in
    let all = length-append p.payload (payload_of ps) in
    omega arith

-- the one piece of a record is no longer than its run
run_least : (first last : Bool) (p : Piece) (later : List Piece) (bytes : List ℕ) → SpellsPieces (p ∷ later) bytes
    → length (canon (whole_piece first last (run_record (record { initial = p; later = later })))) ≤ length bytes
run_least first last p [] bytes s =
    let q = whole_piece first last (run_record (record { initial = p; later = [] })) in
    let n : length q.payload ≡ length p.payload = (let a = length-append p.payload [] in omega arith) in
    let here = piece_octets q (nat_lt (length q.payload) 256) in
    let form = form_least (length q.payload) s.0 (nat_lt (length q.payload) 256) refl (subst (FitsForm s.0) (sym n) s.4.form) in
    let same = ap (λ k. length (payload_length_octets s.0 k)) n in
    let id = id_least p.id in
    let id_same = ap length (same_id (unwrap_or p.id [])) in
    let there = ap length s.4.spelled ∙ piece_octets p s.0 in
    let e = ap length s.3 ∙ length-append s.1 s.2 in
    omega arith
run_least first last p (l ∷ ls) bytes s =
    let q = whole_piece first last (run_record (record { initial = p; later = l ∷ ls })) in
    let n = length-append p.payload (payload_of (l ∷ ls)) in
    let here = piece_octets q (nat_lt (length q.payload) 256) in
    let form = length_octets_few (nat_lt (length q.payload) 256) (length q.payload) in
    let one = form_some (length p.payload) s.0 in
    let id = id_least p.id in
    let id_same = ap length (same_id (unwrap_or p.id [])) in
    let there = ap length s.4.spelled ∙ piece_octets p s.0 in
    let more = later_least (l ∷ ls) s.2 s.5 in
    let e = ap length s.3 ∙ length-append s.1 s.2 in
    omega arith

runs_least : (first : Bool) (rs : List Run) (bytes : List ℕ) → SpellsPieces (all_pieces rs) bytes → length (flat_map canon (whole_pieces first (map run_record rs))) ≤ length bytes
runs_least first [] bytes s = omega arith
runs_least first (r ∷ rs) bytes s =
    let w = split (pieces r) (all_pieces rs) bytes s in
    let here = run_least first (is_nil (map run_record rs)) r.initial r.later w.0 w.3 in
    let more = runs_least false rs w.1 w.4 in
    let e = ap length w.2 ∙ length-append w.0 w.1 in
    let all = length-append (canon (whole_piece first (is_nil (map run_record rs)) (run_record r))) (flat_map canon (whole_pieces false (map run_record rs))) in
    omega arith

pub canonical_is_shortest : CanonicalIsShortest
canonical_is_shortest profile m bytes s = subst (λ x. length (canonical x) ≤ length bytes) s.1.message.items (runs_least true s.0 bytes s.1.spelled)
