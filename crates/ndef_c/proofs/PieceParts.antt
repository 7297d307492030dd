-- The places of the pieces of a record, given one after another.
use Rattle.std.proofs.Common.{◌≡◌, ℕ, ◌+◌, ◌-◌, ◌≤◌, ◌∷◌, [], drop, refl, sym, ◌∙◌, ap, subst, arith, List, ◌++◌, length, length-append, length-drop, append_assoc, append-nil, Bool, true, false, true≢false, inl, inr}
use Rattle.ndef_format.specs.Messages.{SpellsPieces}
use Rattle.ndef_format.specs.Records.{Follow, Piece, Run, pieces}
use Rattle.ndef_format.specs.HeadReasons.{is_set}
use Rattle.ndef_piece.specs.Whole.{BeginWithPiece, IsSplit, piece_of}
use Rattle.ndef_c.specs.Chunks.{ArePiecesAt, IsLast, IsPieceAt, StepsOver}
use Rattle.ndef_c.specs.Walks.{BeginsWithRun, Lies}
use Rattle.ndef_c.specs.declared.part.NdefPart.{NdefPart}
use Rattle.ndef_c.specs.declared.chunks.Pieces.{Pieces}
use Rattle.ndef_c.proofs.Ahead.{after_piece}
use Rattle.ndef_message.specs.Machine.SeenLaws.{same_split}
use Rattle.ndef_c.proofs.Followed.{split_size}
use Rattle.ndef_c.proofs.Places.{lie_in, shown_parts}

-- ---- one piece

-- the part that is given for a payload in front of the rest
abbrev pub part_of : (bytes rest payload : List ℕ) → NdefPart
part_of bytes rest payload = record { at = length bytes - length rest - length payload; length = length payload }

-- a piece that is shown at a place, and where the next one begins
pub record PieceThere (header : ℕ) (kind id payload rest bytes : List ℕ) (place : ℕ) (part : NdefPart) : Type 0 where
  pub is : IsPieceAt bytes place (piece_of header kind id payload) part
  pub following : rest ≡ drop (part.at + part.length) bytes
  pub within : part.at + part.length ≤ length bytes

pub piece_there : (header : ℕ) (short : Bool) (kind id payload rest following bytes : List ℕ) (place : ℕ) (part : NdefPart) → place ≤ length bytes → following ≡ drop place bytes
    → (is_set 3 header ≡ false → id ≡ []) → (i : IsSplit (piece_of header kind id payload) short rest following)
    → part.at ≡ length bytes - length rest - length payload → part.length ≡ length payload → PieceThere header kind id payload rest bytes place part
piece_there header short kind id payload rest following bytes place part h e none i a n =
    let l = (lie_in header kind id payload rest bytes (shown_parts header short kind id payload rest following bytes place e none i)).payload_lies in
    let lies : Lies bytes part.at part.length payload = rw (a, n) l in
    let k = ap length i.joined ∙ length-append i.front rest in
    let m = ap length e ∙ length-drop place bytes in
    let s = split_size (piece_of header kind id payload) short rest following i in
    let end : place + length i.front ≡ part.at + part.length = omega (arith, h, a, n, k, m, s) in
    let back : rest ≡ drop (part.at + part.length) bytes = after_piece (piece_of header kind id payload) short rest following bytes place e i ∙ ap (λ j. drop j bytes) end in
    record {
      is = record {
        short = short;
        split = subst (λ b. IsSplit (piece_of header kind id payload) short (drop (part.at + part.length) bytes) b) e (subst (λ r. IsSplit (piece_of header kind id payload) short r following) back i);
        lies = lies;
      };
      following = back;
      within = lies.within;
    }

-- ---- those of a run

-- the first of these pieces comes exactly where one follows, and each other one after one that is chunked
abbrev Chain : Bool → List Piece → Type 0
Chain follows [] = follows ≡ false
Chain follows (p ∷ ps) = (follows ≡ true) × Chain p.chunked ps

chain_of : (chunked : Bool) (ps : List Piece) → Follow chunked ps → Chain chunked ps
chain_of chunked [] f = f
chain_of chunked (p ∷ ps) f = (f.0, chain_of p.chunked ps f.2)

-- of some pieces these were passed, and the others lie from the place on
pub record Passing (bytes : List ℕ) (all : List Piece) (p : Pieces) (passed : List Piece) : Type 0 where
  pub same : p.bytes.now ≡ bytes
  pub later : List Piece
  pub are : all ≡ passed ++ later
  pub chain : Chain p.follows later
  pub end : List ℕ
  pub front : List ℕ
  pub spelled : SpellsPieces later front
  pub joined : drop p.at bytes ≡ front ++ end

pub passing_at : (run : Run) (end bytes : List ℕ) (at : ℕ) {made p : Pieces} → BeginsWithRun run end (drop at bytes) → p ≡ made → made.bytes.now ≡ bytes → made.at ≡ at → made.follows ≡ true → Passing bytes (pieces run) p []
passing_at run end bytes at {made} {p} b e s a f = subst (λ q. Passing bytes (pieces run) q []) (sym e) (record {
  same = s;
  later = pieces run;
  are = refl;
  chain = (f, chain_of run.initial.chunked run.later b.read.follow);
  end = end;
  front = b.front;
  spelled = b.spelled;
  joined = ap (λ k. drop k bytes) a ∙ b.joined;
})

-- the piece that comes is the next of them
pub record Passed (bytes : List ℕ) (all : List Piece) (p : Pieces) (part : NdefPart) (after : Pieces) (passed : List Piece) : Type 0 where
  pub piece : Piece
  pub is : IsPieceAt bytes p.at piece part
  pub within : (more : List Piece) × (all ≡ passed ++ piece ∷ more)
  pub next : after.at ≡ part.at + part.length
  pub on : Passing bytes all after (passed ++ piece ∷ [])

pub passes : {bytes : List ℕ} {all passed : List Piece} {p : Pieces} {part : NdefPart} {after : Pieces} → Passing bytes all p passed → StepsOver p part after → Passed bytes all p part after passed
passes {bytes} {all} {passed} {p} {part} {after} k s = by_later k.later k.are k.chain k.front k.spelled k.joined
  where
    by_later : (later : List Piece) → all ≡ passed ++ later → Chain p.follows later → (front : List ℕ) → SpellsPieces later front → drop p.at bytes ≡ front ++ k.end → Passed bytes all p part after passed
    by_later [] are chain front spelled joined = absurd (true≢false (sym s.follows ∙ chain))
    by_later (q ∷ later) are chain front (short, head, rest, e, spells, more) joined =
        let is : IsPieceAt bytes p.at s.piece part = subst (λ b. IsPieceAt b p.at s.piece part) k.same s.is in
        let split : IsSplit q short (rest ++ k.end) (drop p.at bytes) = record { front = head; spells = spells; joined = joined ∙ ap (λ x. x ++ k.end) e ∙ append_assoc head rest k.end } in
        let o = same_split q s.piece short is.short (rest ++ k.end) (drop (part.at + part.length) bytes) (drop p.at bytes) split is.split in
        let whole : all ≡ passed ++ s.piece ∷ later = are ∙ ap (λ x. passed ++ x ∷ later) o.0 in
        record {
          piece = s.piece;
          is = is;
          within = (later, whole);
          next = s.next;
          on = record {
            same = s.same ∙ k.same;
            later = later;
            are = whole ∙ sym (append_assoc passed (s.piece ∷ []) later);
            chain = subst (λ c. Chain c later) (ap (λ x. x.chunked) o.0 ∙ sym s.chunked) chain.1;
            end = k.end;
            front = rest;
            spelled = more;
            joined = ap (λ n. drop n bytes) s.next ∙ sym o.1;
          };
        }

-- where no more come all were passed
pub none_left : {bytes : List ℕ} {all passed : List Piece} {p : Pieces} → Passing bytes all p passed → IsLast p → all ≡ passed
none_left {bytes} {all} {passed} {p} k last = by_later k.later k.are k.chain k.front k.spelled k.joined
  where
    by_later : (later : List Piece) → all ≡ passed ++ later → Chain p.follows later → (front : List ℕ) → SpellsPieces later front → drop p.at bytes ≡ front ++ k.end → all ≡ passed
    by_later [] are chain front spelled joined = are ∙ append-nil passed
    by_later (q ∷ later) are chain front (short, head, rest, e, spells, more) joined = absurd (elim last [
      | inl f ↦ true≢false (sym chain.0 ∙ f)
      | inr n ↦ n (subst (λ b. BeginWithPiece (drop p.at b)) (sym k.same) (record {
        piece = q;
        short = short;
        rest = rest ++ k.end;
        split = record { front = head; spells = spells; joined = joined ∙ ap (λ x. x ++ k.end) e ∙ append_assoc head rest k.end };
      }))
    ])

-- ---- the parts that are given for them

-- where the last of them ends
abbrev pub end_of : (at : ℕ) → List NdefPart → ℕ
end_of at [] = at
end_of at (q ∷ qs) = end_of (q.at + q.length) qs

pub end_on : (at : ℕ) (parts : List NdefPart) (part : NdefPart) → end_of at (parts ++ part ∷ []) ≡ part.at + part.length
end_on at [] part = refl
end_on at (q ∷ qs) part = end_on (q.at + q.length) qs part

pub pieces_on : (bytes : List ℕ) (at : ℕ) (ps : List Piece) (parts : List NdefPart) (p : Piece) (part : NdefPart) → ArePiecesAt bytes at ps parts → IsPieceAt bytes (end_of at parts) p part → ArePiecesAt bytes at (ps ++ p ∷ []) (parts ++ part ∷ [])
pieces_on bytes at [] [] p part h i = (i, tt)
pieces_on bytes at [] (x ∷ parts) p part h i = absurd h
pieces_on bytes at (q ∷ ps) [] p part h i = absurd h
pieces_on bytes at (q ∷ ps) (x ∷ parts) p part h i = (h.0, pieces_on bytes (x.at + x.length) ps parts p part h.1 i)

pub pieces_count : (bytes : List ℕ) (at : ℕ) (ps : List Piece) (parts : List NdefPart) → ArePiecesAt bytes at ps parts → length parts ≡ length ps
pieces_count bytes at [] [] h = refl
pieces_count bytes at [] (x ∷ parts) h = absurd h
pieces_count bytes at (q ∷ ps) [] h = absurd h
pieces_count bytes at (q ∷ ps) (x ∷ parts) h = let n = pieces_count bytes (x.at + x.length) ps parts h.1 in omega (arith, n)
