-- The places of the parts of a record.
use Rattle.std.proofs.Common.{◌≡◌, ◌≢◌, ℕ, suc, ◌+◌, ◌-◌, ◌<◌, ◌≤◌, ◌∷◌, [], take, drop, refl, sym, ◌∙◌, ap, arith, List, ◌++◌, length, length-append, length-drop, append_assoc, take_at, drop_at, Bool, true, false}
use Rattle.std.specs.Prelude.{unwrap_or, Some, None, if◌then◌else◌, nat_eq}
use Rattle.std.proofs.lemmas.List.{drop-drop, length-take, take-append-drop}
use mir.Val.{bool_byte}
use Rattle.ndef_format.specs.Records.{bit, Run, fields, octets}
use Rattle.ndef_format.specs.HeadReasons.{is_set}
use Rattle.ndef_piece.specs.Whole.{IsSplit, piece_of}
use Rattle.ndef_c.specs.Walks.{BeginsWithRun, IsRecordThere, Lies}
use Rattle.ndef_c.proofs.Followed.{initial_of, split_size}

-- a part between others
pub lies : (bytes front part rest : List ℕ) (at count : ℕ) → bytes ≡ front ++ (part ++ rest) → count ≡ length part → at + (count + length rest) ≡ length bytes → Lies bytes at count part
lies bytes front part rest at count e n a =
    let whole = ap length e ∙ length-append front (part ++ rest) in
    let tail = length-append part rest in
    let place : length front ≡ at = omega (arith, whole, tail, n, a) in
    record {
      within = omega (arith, a);
      are = ap (λ x. take count (drop at x)) e ∙ ap (take count) (drop_at front (part ++ rest) at place) ∙ take_at part rest count (sym n);
      count_is = n;
    }

-- a part that isn't empty begins within the bytes
pub lies_within : (bytes part : List ℕ) (at count : ℕ) → Lies bytes at count part → 0 < length part → at < length bytes
lies_within bytes part at count l h =
    let n = ap length l.are in
    let t = length-take count (drop at bytes) in
    let d = length-drop at bytes in
    omega (arith, n, t, d, h)

-- a part of what is after the first octet
pub lies_after : (payload bytes part : List ℕ) (at count : ℕ) → bytes ≡ drop 1 payload → at < length bytes → Lies bytes at count part → Lies payload (at + 1) count part
lies_after payload bytes part at count e h l = record {
  within = omega (arith, h, l.within, ap length e, length-drop 1 payload);
  are = ap (λ k. take count (drop k payload)) (omega arith) ∙ sym (ap (take count) (drop-drop at 1 payload)) ∙ ap (λ x. take count (drop at x)) (sym e) ∙ l.are;
  count_is = l.count_is;
}

tail_of : (n x : ℕ) (s part : List ℕ) → take (suc n) s ≡ x ∷ part → take n (drop 1 s) ≡ part
tail_of n x [] part e = absurd (cc)
tail_of n x (y ∷ s) part e = ap (drop 1) e

-- .. and of what is after the first octet of a part
pub lies_tail : (bytes part : List ℕ) (at count x : ℕ) → Lies bytes at count (x ∷ part) → Lies bytes (at + 1) (length part) part
lies_tail bytes part at count x l = record {
  within = omega (arith, l.within, l.count_is);
  are = sym (ap (take (length part)) (drop-drop 1 at bytes)) ∙ tail_of (length part) x (drop at bytes) part (ap (λ n. take n (drop at bytes)) (sym l.count_is) ∙ l.are);
  count_is = refl;
}

-- what is after a record
pub record Ends (bytes rest : List ℕ) (at : ℕ) : Type 0 where
  pub rest_is : drop (length bytes - length rest) bytes ≡ rest
  pub onward : at < length bytes - length rest

pub ends : (run : Run) (bytes following rest : List ℕ) (at : ℕ) → at ≤ length bytes → following ≡ drop at bytes → BeginsWithRun run rest following → Ends bytes rest at
ends run bytes following rest at h e b =
    let i = initial_of run rest following b in
    let l = split_size run.initial i.short i.following following i.split in
    let m = ap length i.others.joined ∙ length-append i.others.front rest in
    let n = ap length e ∙ length-drop at bytes in
    let all : bytes ≡ (take at bytes ++ b.front) ++ rest = sym (take-append-drop at bytes) ∙ ap (λ x. take at bytes ++ x) (sym e ∙ b.joined) ∙ sym (append_assoc (take at bytes) b.front rest) in
    let k = ap length all ∙ length-append (take at bytes ++ b.front) rest in
    let place : length (take at bytes ++ b.front) ≡ length bytes - length rest = omega (arith, k) in
    record { rest_is = ap (drop (length bytes - length rest)) all ∙ drop_at _ rest _ place; onward = omega (arith, l, m, n, h) }

-- the id that is there, or none
pub id_is : (there : Bool) (id : List ℕ) → (there ≡ false → id ≡ []) → unwrap_or (if there then Some id else None) [] ≡ id
id_is true id none = refl
id_is false id none = sym (none refl)

-- the parts of a piece that is shown
pub record Shown (header : ℕ) (kind id payload rest bytes : List ℕ) : Type 0 where
  pub head : List ℕ
  pub joined : bytes ≡ head ++ (kind ++ (id ++ (payload ++ rest)))

pub shown_parts : (header : ℕ) (short : Bool) (kind id payload rest following bytes : List ℕ) (at : ℕ) → following ≡ drop at bytes → (is_set 3 header ≡ false → id ≡ []) → IsSplit (piece_of header kind id payload) short rest following
    → Shown header kind id payload rest bytes
shown_parts header short kind id payload rest following bytes at e none i =
    let o = octets (fields (piece_of header kind id payload) short) in
    let j : following ≡ o ++ (kind ++ (id ++ (payload ++ rest))) =
    i.joined ∙ ap (λ x. x ++ rest) (i.spells.spelled ∙ ap (λ x. o ++ (kind ++ (x ++ payload))) (id_is (is_set 3 header) id none))
    ∙ append_assoc o (kind ++ (id ++ payload)) rest ∙ ap (λ x. o ++ x) (append_assoc kind (id ++ payload) rest ∙ ap (λ x. kind ++ x) (append_assoc id payload rest)) in
    record {
      head = take at bytes ++ o;
      joined = sym (take-append-drop at bytes) ∙ ap (λ x. take at bytes ++ x) (sym e ∙ j) ∙ sym (append_assoc (take at bytes) o _);
    }

-- they lie one before another
pub record LieIn (bytes kind id payload rest : List ℕ) : Type 0 where
  pub kind_lies : Lies bytes (length bytes - length rest - length payload - length id - length kind) (length kind) kind
  pub id_lies : Lies bytes (length bytes - length rest - length payload - length id) (length id) id
  pub payload_lies : Lies bytes (length bytes - length rest - length payload) (length payload) payload
  pub id_after : length bytes - length rest - length payload - length id ≡ length bytes - length rest - length payload - length id - length kind + length kind
  pub payload_after : length bytes - length rest - length payload ≡ length bytes - length rest - length payload - length id + length id

pub lie_in : (header : ℕ) (kind id payload rest bytes : List ℕ) → Shown header kind id payload rest bytes → LieIn bytes kind id payload rest
lie_in header kind id payload rest bytes s =
    let h = s.head in
    let n = ap length s.joined ∙ length-append h (kind ++ (id ++ (payload ++ rest))) in
    let a = length-append kind (id ++ (payload ++ rest)) in
    let b = length-append id (payload ++ rest) in
    let d = length-append payload rest in
    record {
      kind_lies = lies bytes h kind (id ++ (payload ++ rest)) _ _ s.joined refl (omega (arith, n, a, b, d));
      id_lies = lies bytes (h ++ kind) id (payload ++ rest) _ _ (s.joined ∙ sym (append_assoc h kind _)) refl (omega (arith, n, a, b, d));
      payload_lies = lies bytes ((h ++ kind) ++ id) payload rest _ _ (s.joined ∙ sym (append_assoc h kind _) ∙ sym (append_assoc (h ++ kind) id _)) refl (omega (arith, n, a, b, d));
      id_after = omega (arith, n, a, b, d);
      payload_after = omega (arith, n, a, b, d);
    }

-- after the end of the bytes is no record
pub none_beyond : (bytes : List ℕ) (at : ℕ) → length bytes ≤ at → IsRecordThere bytes at → ⊥
none_beyond bytes at h r =
    let i = initial_of r.0 r.1 (drop at bytes) r.2 in
    let n = split_size r.0.initial i.short i.following (drop at bytes) i.split in
    let k = length-drop at bytes in
    omega (arith, n, k, h)

-- a flag as a number
pub byte_is_bit : (b : Bool) → bool_byte b ≡ bit b
byte_is_bit true = refl
byte_is_bit false = refl

-- a flag that is given as a number
pub bit_reported : (n : ℕ) (b : Bool) → n ≡ bit b → nat_eq n 1 ≡ b
bit_reported n true e = ap (λ k. nat_eq k 1) e
bit_reported n false e = ap (λ k. nat_eq k 1) e

pub bit_is_set : (n : ℕ) (b : Bool) → n ≡ bit b → n ≡ 1 → b ≡ true
bit_is_set n true e o = refl
bit_is_set n false e o = absurd (omega (arith, e, o))

pub bit_is_clear : (n : ℕ) (b : Bool) → n ≡ bit b → n ≢ 1 → b ≡ false
bit_is_clear n true e o = absurd (o e)
bit_is_clear n false e o = refl
