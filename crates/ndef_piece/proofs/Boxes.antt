-- The heads that go on after some octets: each length has its range, and all lengths in the ranges are had together.
use Rattle.std.proofs.Common.{◌≡◌, ℕ, suc, ◌+◌, ◌-◌, ◌<◌, ◌≤◌, inl, inr, Bool, true, false, cond, min, take, refl, sym, ◌∙◌, ap, subst, arith, List, [], ◌∷◌, ◌++◌, length, append_assoc, length-append, Option, Some, None}
use Rattle.std.specs.Prelude.{is_some, unwrap_or, ◌==◌, ◌&&◌, nat_lt, IfSome, slice_index}
use Rattle.std.proofs.lemmas.List.{append-nil, take_all}
use Rattle.std.proofs.lemmas.Bool.{lt-ltb, le-ltb, and_from}
use Rattle.std.proofs.lemmas.Bool.Decides.{eqb_tells}
use Rattle.ndef_format.specs.Records.{HeadFields, octets, header_octet, HasShape, tnf_of, payload_length_octets, id_length_octets, AreOctets}
use Rattle.ndef_piece.specs.declared.head.Head.{Head}
use Rattle.ndef_format.specs.declared.spot.Spot.{Spot}
use Rattle.ndef_piece.specs.declared.bounds.Bounds.{Bounds}
use Rattle.ndef_format.specs.Positions.{CanBeSpelled, MayOccur, IsOpen}
use Rattle.ndef_piece.specs.Heads.{head, BeginsHead}
use Rattle.ndef_format.specs.HeadReasons.{tnf_number, least_from}
use Rattle.ndef_piece.specs.Header.{size}
use Rattle.ndef_piece.specs.Ranges.{greatest_from, range_of}
use Rattle.ndef_piece.specs.Bounds.{BoundsOfFronts, BoundsOfHeads, IsIn, AreWithin, AreBounds, kind_range, id_range, bounds_of, bounds_at, front_bounds}
use Rattle.ndef_piece.specs.Machine.Reading.{Reading, IsSound}
use Rattle.ndef_piece.specs.declared.head_reader.Step.{Step}
use Rattle.ndef_piece.specs.declared.head_reader.Step.TheVariants as steps
use Rattle.ndef_piece.proofs.Sorts.{empty, named, unnamed, sort, empty_lengths}
use Rattle.ndef_piece.proofs.Guards.{and_false}
use Rattle.ndef_piece.proofs.Lengths.{octet_count, within, has, fits_form, length_octets}
use Rattle.ndef_piece.specs.HeaderLaws.{octets_size, header, header_parts}
use Rattle.ndef_piece.proofs.Stages.{length_part, at_header, at_kind, at_length, at_id, stage}
use Rattle.ndef_piece.proofs.Sizes.{width_of}
use Rattle.ndef_value.specs.ListLaws.{front_in, octets_front}
use Rattle.ndef_piece.proofs.Apart.{alike, only_head}

-- ---- shapes and ranges

-- the type length of a shape lies in its range
kind_in : (t : ℕ) → t < 8 → (k i n : ℕ) → k < 256 → HasShape (tnf_of t) k i n → IsIn k (kind_range t [])
kind_in t h k i n b s =
    elim (sort t h) [
      | empty z ↦ let s' = rw z at s in rw z (omega arith, omega (arith, s'.0))
      | named x y f ↦ let g = (f k i n).0 s in rw (and_from _ _ (lt-ltb 0 t x) (lt-ltb t 5 y)) (omega (arith, g), omega arith)
      | unnamed x f ↦ let g = (f k i n).0 s in rw (and_false (nat_lt 0 t) (nat_lt t 5) (λ e. le-ltb t 5 (omega arith))) (omega arith, omega (arith, g))
    ]

-- and each in the range has the shape
shape_from : (t : ℕ) → t < 8 → (k i n : ℕ) → IsIn k (kind_range t []) → (t ≡ 0 → (i ≡ 0) × (n ≡ 0)) → HasShape (tnf_of t) k i n
shape_from t h k i n r z =
    elim (sort t h) [
      | empty e ↦ let r' = rw e at r in rw e (omega (arith, r'.1), (z e).0, (z e).1)
      | named x y f ↦ let r' = rw (and_from _ _ (lt-ltb 0 t x) (lt-ltb t 5 y)) at r in (f k i n).1 (omega (arith, r'.0))
      | unnamed x f ↦ let r' = rw (and_false (nat_lt 0 t) (nat_lt t 5) (λ e. le-ltb t 5 (omega arith))) at r in (f k i n).1 (omega (arith, r'.1))
    ]

-- a number in the range of type lengths is an octet
kind_small : (t k : ℕ) → IsIn k (kind_range t []) → k < 256
kind_small t k r = by_test (nat_lt 0 t && nat_lt t 5) r where
  by_test : (b : Bool) → IsIn k (cond b (1, 255) (0, 0)) → k < 256
  by_test true r = omega (arith, r.1)
  by_test false r = omega (arith, r.1)

-- an id length lies in its range
id_in : (t : ℕ) (o : Option ℕ) → unwrap_or o 0 < 256 → (t ≡ 0 → unwrap_or o 0 ≡ 0) → IsIn (unwrap_or o 0) (id_range t (is_some o))
id_in t None b z = (omega arith, omega arith)
id_in t (Some d) b z =
    elim (eqb_tells t 0) [
      | inl e ↦ let f = z e.1 in rw e.0 (omega arith, omega (arith, f))
      | inr e ↦ rw e.0 (omega arith, omega arith)
    ]

-- an id of another length, where there is one
abbrev other_id : Option ℕ → ℕ → Option ℕ
other_id None i = None
other_id (Some d) i = Some i

other_some : (o : Option ℕ) (i : ℕ) → is_some (other_id o i) ≡ is_some o
other_some None i = refl
other_some (Some d) i = refl

-- an id length in its range is had
id_from : (t : ℕ) (o : Option ℕ) (i : ℕ) → IsIn i (id_range t (is_some o)) → (unwrap_or (other_id o i) 0 ≡ i) × (i < 256) × (t ≡ 0 → i ≡ 0)
id_from t None i r = (omega (arith, r.1), omega (arith, r.1), λ e. omega (arith, r.1))
id_from t (Some d) i r =
    elim (eqb_tells t 0) [
      | inl e ↦ let r' = rw e.0 at r in (refl, omega (arith, r'.1), λ f. omega (arith, r'.1))
      | inr e ↦ let r' = rw e.0 at r in (refl, omega (arith, r'.1), λ f. absurd (e.1 f))
    ]

no_id : (o : Option ℕ) (i : ℕ) → o ≡ None → other_id o i ≡ None
no_id None i e = refl
no_id (Some d) i e = cc

-- ---- the head h with other lengths

abbrev other : HeadFields → (kind id payload : ℕ) → HeadFields
other h kind id payload = record {
  first = h.first;
  last = h.last;
  chunked = h.chunked;
  short = h.short;
  tnf = h.tnf;
  kind_length = kind;
  payload_length = payload;
  id_length = other_id h.id_length id;
}

-- payload lengths, by the octets of PAYLOAD_LENGTH that are read
record IsPayload (spot : Spot) (h : HeadFields) (ls : List ℕ) (n : ℕ) : Type 0 where
  least : least_from (octet_count h.short) ls ≤ n
  greatest : n ≤ greatest_from (octet_count h.short) ls
  room : n ≤ spot.room
  empty : h.tnf ≡ 0 → n ≡ 0

-- it may stand too, and its octets begin alike
other_head : (spot : Spot) (h : HeadFields) (ls m : List ℕ) (k i n : ℕ) → MayOccur spot h → length_part h ≡ ls ++ m → IsIn k (kind_range h.tnf []) → IsIn i (id_range h.tnf (is_some h.id_length))
    → IsPayload spot h ls n → MayOccur spot (other h k i n) × (unwrap_or (other_id h.id_length i) 0 ≡ i) × ((rest : List ℕ) × (length_part (other h k i n) ≡ ls ++ rest))
other_head spot h ls m k i n s e kr ir p =
    let l = length_octets h.short h.payload_length s.spelled.form in
    let small : length ls ≤ octet_count h.short = omega (arith, ap length e, length-append ls m, l.0) in
    let o : AreOctets ls = octets_front ls m (subst AreOctets e l.1) in
    let f = fits_form h.short n ls small o p.greatest in
    let d = id_from h.tnf h.id_length i ir in (
      record {
        spelled = record { tnf = s.spelled.tnf; kind = kind_small h.tnf k kr; payload = f.1; form = f.0; id = rw d.0 d.1 };
        read = s.read;
        shape = rw d.0 (shape_from h.tnf s.spelled.tnf k i n kr (λ z. (d.2 z, p.empty z)));
        begins = s.begins;
        outside = s.outside;
        inside = λ x. ((s.inside x).0, no_id h.id_length i (s.inside x).1);
        chunked = s.chunked;
        followed = s.followed;
        room = p.room;
      },
      d.0,
      has h.short n ls small o p.least p.greatest,
    )

-- it has the same header octet
same_octet : (h : HeadFields) (k i n : ℕ) → header (other h k i n) ≡ header h
same_octet h k i n = ap (λ b. header_octet h.first h.last h.chunked h.short b h.tnf) (other_some h.id_length i)

-- a number in the range of payload lengths is one
from_range : (spot : Spot) (h : HeadFields) (ls m : List ℕ) (n : ℕ) → MayOccur spot h → length_part h ≡ ls ++ m
    → ((least_from (octet_count h.short) ls ≤ h.payload_length) × (h.payload_length ≤ greatest_from (octet_count h.short) ls))
    → IsIn n (cond (h.tnf == 0) (0, 0) (least_from (octet_count h.short) ls, min (greatest_from (octet_count h.short) ls) spot.room)) → IsPayload spot h ls n
from_range spot h ls m n s e w r =
    elim (eqb_tells h.tnf 0) [
      | inl z ↦
          let r' = rw z.0 at r in
          let q = rw z.1 at s.shape in
          let zero = q.2 in
          record { least = omega (arith, w.0, zero, r'.1); greatest = omega (arith, w.1, zero, r'.1); room = omega (arith, r'.1); empty = λ f. omega (arith, r'.1) }
      | inr z ↦
          let r' = rw z.0 at r in
          record { least = r'.0; greatest = omega (arith, r'.1); room = omega (arith, r'.1); empty = λ f. absurd (z.1 f) }
    ]

-- ---- the range of payload lengths

-- the payload length of a head that begins with the header octet of h, and whose payload length begins with ls
in_range : (spot : Spot) (h g : HeadFields) (ls m : List ℕ) → h.tnf < 8 → header g ≡ header h → CanBeSpelled g → length_part g ≡ ls ++ m
    → (least_from (octet_count h.short) ls ≤ g.payload_length) × (g.payload_length ≤ greatest_from (octet_count h.short) ls)
in_range spot h g ls m t e l w =
    subst (λ s. (least_from (octet_count s) ls ≤ g.payload_length) × (g.payload_length ≤ greatest_from (octet_count s) ls))
    (alike g h l.tnf t e).short (within g.short g.payload_length l.payload l.form ls m w)

-- such a head, where its first octets are the header octet, a type length and ls
begun_range : (spot : Spot) (h g : HeadFields) (k : ℕ) (ls : List ℕ) → h.tnf < 8 → length ls ≤ octet_count h.short → BeginsHead spot (header h ∷ k ∷ ls) g
    → (least_from (octet_count h.short) ls ≤ g.payload_length) × (g.payload_length ≤ greatest_from (octet_count h.short) ls)
begun_range spot h g k ls t n b =
    let e = b.spelled in
    let eh : header g ≡ header h = cc in
    let et : length_part g ++ id_length_octets g.id_length ≡ ls ++ b.rest = cc in
    let es = (alike g h b.stands.spelled.tnf t eh).short in
    let el = (length_octets g.short g.payload_length b.stands.spelled.form).0 in
    let w = front_in (length_part g) (id_length_octets g.id_length) ls b.rest et (rw (el, es) n) in
    in_range spot h g ls w.0 t eh b.stands.spelled w.1

-- an empty record has no payload
empty_length : (spot : Spot) (h g : HeadFields) → h.tnf < 8 → h.tnf ≡ 0 → header g ≡ header h → MayOccur spot g → g.payload_length ≡ 0
empty_length spot h g t z e s = (empty_lengths g.tnf _ _ _ s.shape ((alike g h s.spelled.tnf t e).tnf ∙ z)).1

-- so it lies in the range
to_range : (spot : Spot) (h g : HeadFields) (ls : List ℕ) → h.tnf < 8 → header g ≡ header h → MayOccur spot g
    → ((least_from (octet_count h.short) ls ≤ g.payload_length) × (g.payload_length ≤ greatest_from (octet_count h.short) ls))
    → IsIn g.payload_length (cond (h.tnf == 0) (0, 0) (least_from (octet_count h.short) ls, min (greatest_from (octet_count h.short) ls) spot.room))
to_range spot h g ls t e s w =
    elim (eqb_tells h.tnf 0) [
      | inl z ↦ let n = empty_length spot h g t z.1 e s in rw z.0 (omega (arith, n), omega (arith, n))
      | inr z ↦ let r = s.room in rw z.0 (w.0, omega (arith, w.1, r))
    ]

-- ---- heads that go on are within the bounds

-- all lengths of a head that goes on lie in the ranges
sound : (spot : Spot) (h f : HeadFields) (xs : List ℕ) → h.tnf < 8 → (begun : BeginsHead spot (header h ∷ xs) f) → IsIn f.kind_length (kind_range (tnf_number (header h)) xs)
    → IsIn f.payload_length (range_of spot (header h ∷ xs)) → AreWithin f (length begun.rest) (bounds_of spot (header h) xs)
sound spot h f xs t b kind payload =
    let s = b.stands in
    let e = b.spelled in
    let eh : header f ≡ header h = cc in
    let a = alike f h s.spelled.tnf t eh in
    let p = header_parts h t in
    let n : length (octets f) ≡ size (header h) = octets_size f s.spelled.tnf ∙ ap size eh in
    let v = unwrap_or f.id_length 0 in
    let z : f.tnf ≡ 0 → v ≡ 0 = λ z. (rw z at s.shape).1 in
    let id = subst (λ i. IsIn v (id_range h.tnf i)) a.id (subst (λ t. IsIn v (id_range t (is_some f.id_length))) a.tnf (id_in f.tnf f.id_length s.spelled.id z)) in
    record {
      left = rest_of (size (header h)) (length xs) (length b.rest) (sym n ∙ ap length e ∙ length-append (header h ∷ xs) b.rest);
      last = a.last ∙ sym p.ends;
      chunked = a.chunked ∙ sym p.chunked;
      tnf = ap tnf_of (a.tnf ∙ sym p.tnf);
      kind = kind;
      id = rw (p.tnf, p.id_there) id;
      payload = payload;
    }
  where
    rest_of : (n a r : ℕ) → n ≡ suc a + r → r ≡ n - (1 + a)
    rest_of n a r e = omega arith

-- ---- after the header octet

-- the bounds there
kind_bounds : (spot : Spot) (h : HeadFields) → MayOccur spot h → AreBounds spot (header h ∷ []) (bounds_of spot (header h) [])
kind_bounds spot h s =
    let t = s.spelled.tnf in
    let p = header_parts h t in
    record {
      sound = λ f b.
          (let e = b.spelled in
          let eh : header f ≡ header h = cc in
          let a = alike f h b.stands.spelled.tnf t eh in
          let kind = subst (λ t. IsIn f.kind_length (kind_range t [])) a.tnf (kind_in f.tnf b.stands.spelled.tnf _ _ _ b.stands.spelled.kind b.stands.shape) in
          let payload = to_range spot h f [] t eh b.stands (in_range spot h f [] (length_part f) t eh b.stands.spelled refl) in
          sound spot h f [] t b (rw p.tnf kind) (rw (p.tnf, width_of h t) payload));
      full = λ k i n kr ir nr.
          (let kr' = rw p.tnf at kr in
          let ir' = rw (p.tnf, p.id_there) at ir in
          let nr' = rw (p.tnf, width_of h t) at nr in
          let w = within h.short h.payload_length s.spelled.payload s.spelled.form [] (length_part h) refl in
          let q = other_head spot h [] (length_part h) k i n s refl kr' ir' (from_range spot h [] (length_part h) n s refl w nr') in
          let after = k ∷ (payload_length_octets h.short n ++ id_length_octets (other_id h.id_length i)) in
          (other h k i n, record { stands = q.0; rest = after; spelled = ap (λ z. z ∷ after) (same_octet h k i n) }, refl, q.1, refl));
    }

-- ---- after TYPE_LENGTH and the octets ls of PAYLOAD_LENGTH

-- the bounds there
length_bounds : (spot : Spot) (h : HeadFields) (ls m : List ℕ) → MayOccur spot h → length_part h ≡ ls ++ m
    → AreBounds spot (header h ∷ h.kind_length ∷ ls) (bounds_of spot (header h) (h.kind_length ∷ ls))
length_bounds spot h ls m s e =
    let t = s.spelled.tnf in
    let p = header_parts h t in
    let l = length_octets h.short h.payload_length s.spelled.form in
    let small : length ls ≤ octet_count h.short = omega (arith, ap length e, length-append ls m, l.0) in
    let all : take (octet_count h.short) ls ≡ ls = take_all (octet_count h.short) ls small in
    record {
      sound = λ f b.
          (let g = b.spelled in
          let k : f.kind_length ≡ h.kind_length = cc in
          let eh : header f ≡ header h = cc in
          let payload = to_range spot h f ls t eh b.stands (begun_range spot h f h.kind_length ls t small b) in
          sound spot h f (h.kind_length ∷ ls) t b (omega (arith, k), omega (arith, k)) (rw (p.tnf, width_of h t, all) payload));
      full = λ k i n kr ir nr.
          (let ir' = rw (p.tnf, p.id_there) at ir in
          let nr' = rw (p.tnf, width_of h t, all) at nr in
          let w = within h.short h.payload_length s.spelled.payload s.spelled.form ls m e in
          let c : h.kind_length ≡ k = omega (arith, kr.0, kr.1) in
          let d = subst (λ x. IsIn x (kind_range h.tnf [])) c (kind_in h.tnf t _ _ _ s.spelled.kind s.shape) in
          let q = other_head spot h ls m k i n s e d ir' (from_range spot h ls m n s e w nr') in
          let ids = id_length_octets (other_id h.id_length i) in
          let spelled : octets (other h k i n) ≡ header h ∷ h.kind_length ∷ (ls ++ (q.2.0 ++ ids)) =
          ap (λ x. x ∷ k ∷ (payload_length_octets h.short n ++ ids)) (same_octet h k i n)
          ∙ ap (λ x. header h ∷ x ∷ (payload_length_octets h.short n ++ ids)) (sym c)
          ∙ ap (λ x. header h ∷ h.kind_length ∷ (x ++ ids)) q.2.1
          ∙ ap (λ x. header h ∷ h.kind_length ∷ x) (append_assoc ls q.2.0 ids) in
          (other h k i n, record { stands = q.0; rest = q.2.0 ++ ids; spelled = spelled }, refl, q.1, refl));
    }

-- from octets by their parts to the octets
there : (spot : Spot) (x y : ℕ) (xs ys : List ℕ) → x ∷ xs ≡ y ∷ ys → AreBounds spot (y ∷ ys) (bounds_of spot y ys) → AreBounds spot (x ∷ xs) (bounds_of spot x xs)
there spot x y xs ys e f =
    let a : y ≡ x = cc in
    let b : ys ≡ xs = cc in
    subst (λ z. AreBounds spot (z ∷ xs) (bounds_of spot z xs)) a (subst (λ zs. AreBounds spot (y ∷ zs) (bounds_of spot y zs)) b f)

pub open_bounds : BoundsOfFronts
open_bounds spot x xs o =
    let h = o.fields in
    elim (stage h (x ∷ xs) o.rest o.next o.spelled) [
      | at_header e y ↦ absurd (let z : x ∷ xs ≡ [] = e in cc)
      | at_kind e y ↦ there spot x (header h) xs [] e (kind_bounds spot h o.stands)
      | at_length ls m e y ↦ there spot x (header h) xs (h.kind_length ∷ ls) e (length_bounds spot h ls (o.next ∷ m) o.stands y)
      | at_id e y ↦ there spot x (header h) xs (h.kind_length ∷ length_part h) e (length_bounds spot h (length_part h) [] o.stands (sym (append-nil _)))
    ]

-- ---- after a whole head

pub whole_bounds : BoundsOfHeads
whole_bounds spot xs h w =
    let g = w.fields in
    record {
      sound = λ f b.
          (let o = only_head spot xs h w f b in
          let a : head f ≡ h = ap head o.0 ∙ w.read in
          let k : f.kind_length ≡ h.kind_length = ap (λ x. x.kind_length) a in
          let i : unwrap_or f.id_length 0 ≡ unwrap_or h.id_length 0 = ap (λ x. unwrap_or x.id_length 0) a in
          let n : f.payload_length ≡ h.payload_length = ap (λ x. x.payload_length) a in
          record {
            left = ap length (sym o.1);
            last = ap (λ x. x.last) a;
            chunked = ap (λ x. x.chunked) a;
            tnf = ap (λ x. x.tnf) a;
            kind = (omega (arith, k), omega (arith, k));
            id = (omega (arith, i), omega (arith, i));
            payload = (omega (arith, n), omega (arith, n));
          });
      full = λ k i n kr ir nr.
          (let a = w.read in
          let c : g.kind_length ≡ h.kind_length = ap (λ x. x.kind_length) a in
          let d : unwrap_or g.id_length 0 ≡ unwrap_or h.id_length 0 = ap (λ x. unwrap_or x.id_length 0) a in
          let e : g.payload_length ≡ h.payload_length = ap (λ x. x.payload_length) a in
          let begun : BeginsHead spot xs g = record { stands = w.stands; rest = []; spelled = w.spelled ∙ sym (append-nil xs) } in
          (g, begun, omega (arith, c, kr.0, kr.1), omega (arith, d, ir.0, ir.1), omega (arith, e, nr.0, nr.1)));
    }

-- ---- the reader's bounds

-- an open front is not longer than the head
pub open_fits : (spot : Spot) (xs : List ℕ) → IsOpen spot xs → length xs ≤ size (slice_index xs 0)
open_fits spot [] o = omega arith
open_fits spot (x ∷ xs) o =
    let e = o.spelled in
    let f : header o.fields ≡ x = cc in
    let n : length (octets o.fields) ≡ size x = octets_size o.fields o.stands.spelled.tnf ∙ ap size f in
    less (length (x ∷ xs)) (size x) (length (octets o.fields)) (length (o.next ∷ o.rest)) n (ap length e ∙ length-append (x ∷ xs) (o.next ∷ o.rest))
  where
    less : (a b n m : ℕ) → n ≡ b → n ≡ a + m → a ≤ b
    less a b n m e f = omega arith

-- where there are bounds they are right
at_front : (spot : Spot) (xs : List ℕ) → IsOpen spot xs → IfSome (front_bounds spot xs) (AreBounds spot xs)
at_front spot [] o = tt
at_front spot (x ∷ xs) o = open_bounds spot x xs o

-- the bounds of a reader that goes on
pub bounds_open : (r : Reading) (answer : Step) (b : Option Bounds) → IsSound r answer → answer ≡ steps.More → b ≡ front_bounds r.spot r.octets
    → IfSome b (AreBounds r.spot r.octets)
bounds_open r answer b s e f = subst (λ x. IfSome x (AreBounds r.spot r.octets)) (sym f) (at_front r.spot r.octets (subst (IsSound r) e s))

-- the bounds of a reader that has a head
pub bounds_whole : (r : Reading) (answer : Step) (h : Head) → IsSound r answer → answer ≡ steps.Head h → AreBounds r.spot r.octets (bounds_at h)
bounds_whole r answer h s e = whole_bounds r.spot r.octets h (subst (IsSound r) e s)
