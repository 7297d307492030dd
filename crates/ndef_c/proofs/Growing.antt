-- Records that are appended to a message in a buffer.
use Rattle.std.proofs.Common.{◌≡◌, ℕ, ◌-◌, ◌<◌, ◌≤◌, ◌==◌, ne_eqb, Bool, true, false, List, [], ◌∷◌, ◌++◌, take, drop, take_at, get_or, refl, sym, ◌∙◌, ap, ap₂, subst, arith, length, length-append, length-take-le, append-nil, append_assoc, inl, inr, Option, ◌&&◌, not}
use Rattle.std.specs.List.{flat_map}
use Rattle.std.specs.Prelude.{slice_set}
use Rattle.std.proofs.Math.Seq.{get_or-append_seam, set-append_seam}
use Rattle.std.proofs.lemmas.Bool.{cases_lt}
use Rattle.std.proofs.lemmas.Grind.{flat_map-append}
use Rattle.ndef_format.specs.Messages.{Item}
use Rattle.ndef_format.specs.Records.{Piece, bit, pieces}
use Rattle.ndef_message.specs.declared.form.Form.{Form}
use Rattle.ndef_message.specs.Cut.{cut_run, first_part, first_piece, later_parts, later_piece, later_pieces, none_left}
use Rattle.ndef_message.specs.Written.{written_piece}
use Rattle.ndef_c.specs.Built.{AppendedBegins, GivesAppended, Holding, appended_octets, is_first_of, reopened}
use Rattle.ndef_c.specs.Growing.{Appended, FirstIsHeld, HoldsRecords, IsAppended, OthersAreHeld, followed_octets, opens}
use Rattle.ndef_c.specs.Writes.{LastBegins, form_of, record_octets, size_of}
use Rattle.ndef_c.specs.declared.status.TheConstants.{OK}

-- ---- a record that is the last of its message, and one that isn't

-- the pieces differ in the end of the last one
pub record EndDiffers (ps qs : List Piece) : Type 0 where
  pub done : List Piece
  pub piece : Piece
  pub are : ps ≡ done ++ piece ∷ []
  pub last : piece.last ≡ true
  pub others : qs ≡ done ++ (record piece { last = false }) ∷ []

later_differ : (part : List ℕ) (parts : List (List ℕ)) → EndDiffers (later_pieces true (part ∷ parts)) (later_pieces false (part ∷ parts))
later_differ part [] = record { done = []; piece = later_piece true false part; are = refl; last = refl; others = refl }
later_differ part (next ∷ parts) =
    let d = later_differ next parts in
    record {
      done = later_piece false true part ∷ d.done;
      piece = d.piece;
      are = ap (λ ps. later_piece false true part ∷ ps) d.are;
      last = d.last;
      others = ap (λ ps. later_piece false true part ∷ ps) d.others;
    }

run_by : (first : Bool) (m : Item) (part : List ℕ) (later : List (List ℕ))
    → EndDiffers (first_piece first (none_left later && true) (not (none_left later)) m part ∷ later_pieces true later) (first_piece first (none_left later && false) (not (none_left later)) m part ∷ later_pieces false later)
run_by first m part [] = record { done = []; piece = first_piece first true false m part; are = refl; last = refl; others = refl }
run_by first m part (next ∷ parts) =
    let d = later_differ next parts in
    record {
      done = first_piece first false true m part ∷ d.done;
      piece = d.piece;
      are = ap (λ ps. first_piece first false true m part ∷ ps) d.are;
      last = d.last;
      others = ap (λ ps. first_piece first false true m part ∷ ps) d.others;
    }

run_differs : (first : Bool) (size : Option ℕ) (m : Item) → EndDiffers (pieces (cut_run first true size m)) (pieces (cut_run first false size m))
run_differs first size m = run_by first m (first_part size m.payload) (later_parts size m.payload)

-- the octets differ in the bit of their first octet
pub record BitDiffers (xs ys : List ℕ) : Type 0 where
  pub octet : ℕ
  pub others : List ℕ
  pub is : xs ≡ octet ∷ others
  pub cleared : ys ≡ (octet - 64) ∷ others

piece_differs : (form : Form) (p : Piece) → p.last ≡ true → BitDiffers (written_piece form p) (written_piece form (record p { last = false }))
unfolding written_piece
piece_differs form p e =
    let one : bit p.last ≡ 1 = ap bit e in
    record { octet = _; others = _; is = refl; cleared = ap₂ (λ x y. x ∷ y) (omega (arith, one)) refl }

-- the record, with its end and without
pub record RecordDiffers (xs ys : List ℕ) (at : ℕ) : Type 0 where
  pub front : List ℕ
  pub octet : ℕ
  pub others : List ℕ
  pub is : xs ≡ front ++ octet ∷ others
  pub cleared : ys ≡ front ++ (octet - 64) ∷ others
  pub at_is : at ≡ length front

record_differs : (form : Form) (first : Bool) (size : Option ℕ) (m : Item) (at : ℕ) → LastBegins form first true size m at → RecordDiffers (record_octets form first true size m) (record_octets form first false size m) at
record_differs form first size m at l =
    let d = run_differs first size m in
    let b = piece_differs form d.piece d.last in
    let e : l.done ++ l.piece ∷ [] ≡ d.done ++ d.piece ∷ [] = sym l.pieces_are ∙ d.are in
    let n = sym (length-append l.done (l.piece ∷ [])) ∙ ap length e ∙ length-append d.done (d.piece ∷ []) in
    let long : length l.done ≡ length d.done = omega (arith, n) in
    let same : l.done ≡ d.done = sym (take_at l.done _ _ refl) ∙ ap (take (length l.done)) e ∙ take_at d.done _ _ (sym long) in
    let w = written_piece form in
    record {
      front = flat_map w d.done;
      octet = b.octet;
      others = b.others;
      is = ap (flat_map w) d.are ∙ flat_map-append w d.done (d.piece ∷ []) ∙ ap (λ x. flat_map w d.done ++ x) (append-nil (w d.piece) ∙ b.is);
      cleared = ap (flat_map w) d.others ∙ flat_map-append w d.done ((record d.piece { last = false }) ∷ []) ∙ ap (λ x. flat_map w d.done ++ x) (append-nil (w (record d.piece { last = false })) ∙ b.cleared);
      at_is = l.at_is ∙ ap (λ ps. length (flat_map w ps)) same;
    }

-- ---- the records that others follow

pub none_opens : (records : List Appended) → opens false records ≡ false
none_opens [] = refl
none_opens (a ∷ records) = refl

opens_more : (records : List Appended) (a : Appended) → opens true (records ++ a ∷ []) ≡ false
opens_more [] a = refl
opens_more (b ∷ records) a = refl

followed_more : (first : Bool) (records : List Appended) (a : Appended) → followed_octets first (records ++ a ∷ []) ≡ followed_octets first records ++ record_octets (form_of a.how) (opens first records) false (size_of a.how) a.item
followed_more first [] a = append-nil (record_octets (form_of a.how) first false (size_of a.how) a.item)
followed_more first (b ∷ records) a =
    let here = record_octets (form_of b.how) first false (size_of b.how) b.item in
    ap (λ x. here ++ x) (followed_more false records a ∙ ap (λ o. followed_octets false records ++ record_octets (form_of a.how) o false (size_of a.how) a.item) (none_opens records))
    ∙ sym (append_assoc here (followed_octets false records) (record_octets (form_of a.how) false false (size_of a.how) a.item))

-- the message that is there, its end taken from it
pub record Open (records : List Appended) (last : Appended) (h : Holding) : Type 0 where
  pub is : reopened h ≡ followed_octets true (records ++ last ∷ [])
  pub size : length (reopened h) ≡ h.builder.length
  pub some : 0 < h.builder.length

open_of : (records : List Appended) (last : Appended) (h : Holding) → HoldsRecords records last h → Open records last h
open_of records last h k =
    let front = followed_octets true records in
    let d = record_differs (form_of last.how) (opens true records) (size_of last.how) last.item k.at k.begins in
    let bytes = take h.builder.length h.buffer in
    let all : bytes ≡ (front ++ d.front) ++ d.octet ∷ d.others = k.bytes ∙ ap (λ x. front ++ x) d.is ∙ sym (append_assoc front d.front (d.octet ∷ d.others)) in
    let n = length-append front d.front in
    let i = d.at_is in
    let j = k.last_at in
    let place : h.builder.last_at ≡ length (front ++ d.front) = omega (arith, n, i, j) in
    let octet : get_or bytes h.builder.last_at 0 ≡ d.octet = ap₂ (λ x y. get_or x y 0) all place ∙ get_or-append_seam (front ++ d.front) d.octet d.others 0 in
    let set : reopened h ≡ (front ++ d.front) ++ (d.octet - 64) ∷ d.others =
    ap (λ x. slice_set bytes h.builder.last_at (x - 64)) octet ∙ ap₂ (λ x y. slice_set x y (d.octet - 64)) all place ∙ set-append_seam (front ++ d.front) d.octet d.others (d.octet - 64) in
    let m = length-take-le h.builder.length h.buffer k.within in
    let a = ap length all ∙ length-append (front ++ d.front) (d.octet ∷ d.others) in
    let b = ap length set ∙ length-append (front ++ d.front) ((d.octet - 64) ∷ d.others) in
    record {
      is = set ∙ append_assoc front d.front ((d.octet - 64) ∷ d.others) ∙ ap (λ x. front ++ x) (sym d.cleared) ∙ sym (followed_more true records last);
      size = omega (arith, m, a, b);
      some = omega (arith, m, a);
    }

-- ---- one more

room_is : (octets : List ℕ) (begins : ℕ → Type 0) (before after : Holding) (count : ℕ) → GivesAppended octets begins before after count OK → count ≤ length before.buffer
room_is octets begins before after count g = elim (cases_lt (length before.buffer) count) [
  | inl l ↦ (let s = (g.too_small l).0 in absurd (omega (arith, s)))
  | inr l ↦ l
]

-- after what is there
held_more : (records : List Appended) (a : Appended) (before after : Holding) (count : ℕ) → reopened before ≡ followed_octets true records → length (reopened before) ≡ before.builder.length
    → is_first_of before.builder ≡ opens true records → before.builder.records ≡ length records → IsAppended a before after count → HoldsRecords records a after
held_more records a before after count e n first few g =
    let octets = appended_octets (is_first_of before.builder) a.how a.item in
    let f = g.fits (room_is octets _ before after count g) in
    let w = f.2 in
    let size = w.length_is in
    let both = length-append (reopened before) octets in
    let buffer = f.1 ∙ sym (append_assoc (reopened before) octets (drop count before.buffer)) in
    let whole = ap length buffer ∙ length-append (reopened before ++ octets) (drop count before.buffer) in
    let place = w.last_at in
    let k = ap length e in
    let many = w.records in
    record {
      within = omega (arith, whole, both, size, n);
      bytes = ap (take after.builder.length) buffer ∙ take_at (reopened before ++ octets) (drop count before.buffer) after.builder.length (omega (arith, both, size, n))
          ∙ ap₂ (λ x o. x ++ appended_octets o a.how a.item) e first;
      at = w.at;
      begins = subst (λ o. AppendedBegins o a.how a.item w.at) first w.begins_at;
      last_at = omega (arith, place, n, k);
      count = omega (arith, many, few);
    }

pub first_held : FirstIsHeld
first_held a before after count u g =
    let none : reopened before ≡ [] = ap (λ k. slice_set (take k before.buffer) before.builder.last_at (get_or (take k before.buffer) before.builder.last_at 0 - 64)) u.length_is in
    let size = u.length_is in
    held_more [] a before after count none (ap length none ∙ sym size) (ap (λ k. k == 0) size) u.records g

pub others_held : OthersAreHeld
others_held records last a before after count k g =
    let o = open_of records last before k in
    let some = o.some in
    let n = length-append records (last ∷ []) in
    let c = k.count in
    held_more (records ++ last ∷ []) a before after count o.is o.size (ne_eqb before.builder.length 0 (omega (arith, some)) ∙ sym (opens_more records last)) (omega (arith, n, c)) g
