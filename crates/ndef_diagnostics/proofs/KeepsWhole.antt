-- The whole pieces at the beginning of some bytes.
use Rattle.std.proofs.Common.{◌≡◌, ◌≤◌, ℕ, ◌+◌, Bool, true, false, not, refl, sym, ◌∙◌, ap, arith, List, [], ◌∷◌, ◌++◌, length, append_assoc, length-append, if◌then◌else◌}
use Rattle.std.proofs.lemmas.List.{append-nil}
use mir.Val.{bool_byte}
use Rattle.ndef_format.specs.Records.{Piece, SpellsPiece}
use Rattle.ndef_format.specs.Messages.{SpellsPieces}
use Rattle.ndef_piece.specs.Whole.{IsSplit}
use Rattle.ndef_diagnostics.specs.Wholes.{ends_in_chunk, records_ended}

-- whole pieces are before the rest, of this number, with which this many records end, the last being a chunk or not
pub record KeepsWhole (bytes rest : List ℕ) (count records : ℕ) (chunk : Bool) : Type 0 where
  pub pieces : List Piece
  pub front : List ℕ
  pub spelled : SpellsPieces pieces front
  pub split : bytes ≡ front ++ rest
  pub count_is : count ≡ length pieces
  pub records_are : records ≡ records_ended pieces
  pub chunk_is : chunk ≡ ends_in_chunk pieces

pub whole_first : (bytes : List ℕ) → KeepsWhole bytes bytes 0 0 false
whole_first bytes = record { pieces = []; front = []; spelled = refl; split = refl; count_is = refl; records_are = refl; chunk_is = refl }

-- ---- one piece more

spelled_more : (ps : List Piece) (x front : List ℕ) (w : Piece) (short : Bool) → SpellsPieces ps x → SpellsPiece w short front → SpellsPieces (ps ++ w ∷ []) (x ++ front)
spelled_more [] x front w short e s = (short, front, [], ap (λ y. y ++ front) e ∙ sym (append-nil front), s, refl)
spelled_more (p ∷ ps) x front w short (form, first, rest, e, sp, more) s =
    (form, first, rest ++ front, ap (λ y. y ++ front) e ∙ append_assoc first rest front, sp, spelled_more ps rest front w short more s)

records_more : (ps : List Piece) (w : Piece) → records_ended (ps ++ w ∷ []) ≡ records_ended ps + (if not w.chunked then 1 else 0)
records_more [] w = omega arith
records_more (p ∷ ps) w = let e = records_more ps w in omega (arith, e)

chunk_more : (ps : List Piece) (w : Piece) → ends_in_chunk (ps ++ w ∷ []) ≡ w.chunked
chunk_more [] w = refl
chunk_more (p ∷ []) w = refl
chunk_more (p ∷ q ∷ ps) w = chunk_more (q ∷ ps) w

pub byte_ended : (chunked : Bool) → bool_byte (not chunked) ≡ (if not chunked then 1 else 0)
byte_ended true = refl
byte_ended false = refl

pub at_most_one : (chunked : Bool) → (if not chunked then 1 else 0) ≤ 1
at_most_one true = omega arith
at_most_one false = omega arith

-- a piece has two octets
pub split_shorter : (p : Piece) (short : Bool) (rest bytes : List ℕ) → IsSplit p short rest bytes → length rest + 2 ≤ length bytes
split_shorter p short rest bytes i =
    let a = ap length i.joined ∙ length-append i.front rest in
    let b = ap length i.spells.spelled in
    omega (arith, a, b)

pub whole_more : (bytes rest next : List ℕ) (count records : ℕ) (chunk : Bool) (w : Piece) (short : Bool) → KeepsWhole bytes rest count records chunk
    → IsSplit w short next rest → KeepsWhole bytes next (count + 1) (records + (if not w.chunked then 1 else 0)) w.chunked
whole_more bytes rest next count records chunk w short k i =
    let more = records_more k.pieces w in
    let are = k.records_are in
    record {
      pieces = k.pieces ++ w ∷ [];
      front = k.front ++ i.front;
      spelled = spelled_more k.pieces k.front i.front w short k.spelled i.spells;
      split = k.split ∙ ap (λ y. k.front ++ y) i.joined ∙ sym (append_assoc k.front i.front next);
      count_is = ap (λ n. n + 1) k.count_is ∙ sym (length-append k.pieces (w ∷ []));
      records_are = omega (arith, more, are);
      chunk_is = sym (chunk_more k.pieces w);
    }
