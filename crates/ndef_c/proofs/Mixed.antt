-- Records in forms and pieces of their own are a message.
use Rattle.std.proofs.Common.{◌≡◌, ℕ, zero, suc, ◌<◌, ◌≤◌, ◌^◌, ◌==◌, Bool, true, false, not, ◌&&◌, List, [], ◌∷◌, ◌++◌, length, map, Option, Some, None, refl, sym, ◌∙◌, ap, ap₂, subst, arith, append-nil, append_assoc, ne_eqb}
use Rattle.std.specs.List.{flat_map, AllByRecursion}
use Rattle.std.specs.Option.{ForSome}
use Rattle.std.specs.Prelude.{unwrap_or, if◌then◌else◌}
use Rattle.std.proofs.Math.Bool.{and-false}
use Rattle.ndef_value.specs.ListLaws.{all_append}
use Rattle.ndef_format.specs.Canonical.{AreItems, IsItem, written_id}
use Rattle.ndef_format.specs.Messages.{BeginsOnce, EndsOnce, IsShaped, Item, SpellsPieces, all_pieces, payload_of, run_record}
use Rattle.ndef_format.specs.Records.{AreOctets, Follow, IsPiece, IsRun, Piece, Run, code, pieces, tnf_of}
use Rattle.ndef_format.specs.declared.profile.Profile.{Profile}
use Rattle.ndef_message.specs.declared.form.Form.{Form}
use Rattle.ndef_message.specs.declared.form.Form.TheVariants.{Short}
use Rattle.ndef_message.specs.Cut.{cut_run, first_part, later_parts, later_piece, later_pieces, none_left}
use Rattle.ndef_message.specs.Written.{PiecesAreSpelled, WrittenIsSpelled, is_short, written_piece}
use Rattle.ndef_c.specs.Built.{appended_octets}
use Rattle.ndef_c.specs.Growing.{Appended, HeldAreAMessage, followed_octets, opens}
use Rattle.ndef_c.specs.Writes.{form_of, record_octets, size_of}
use Rattle.ndef_c.proofs.Growing.{none_opens}

-- ---- a record, wherever it stands in its message

follow_alike : (last : Bool) (b : Bool) (ps : List (List ℕ)) → Follow b (later_pieces true ps) → Follow b (later_pieces last ps)
follow_alike last b [] f = f
follow_alike last b (p ∷ ps) f = (f.0, record { tnf = refl; kind = refl; id = refl }, follow_alike last (not (none_left ps)) ps f.2)

run_alike : (profile : Profile) (first last : Bool) (size : Option ℕ) (m : Item) → IsRun profile (cut_run true true size m) → IsRun profile (cut_run first last size m)
run_alike profile first last size m r = record {
  initial = record { read = r.initial.read; changed = r.initial.changed; not_empty = r.initial.not_empty };
  follow = follow_alike last _ (later_parts size m.payload) r.follow;
}

payload_alike : (last : Bool) (ps : List (List ℕ)) → payload_of (later_pieces last ps) ≡ payload_of (later_pieces true ps)
payload_alike last [] = refl
payload_alike last (p ∷ ps) = ap (λ x. p ++ x) (payload_alike last ps)

abbrev item_with : Option ℕ → Item → List ℕ → Item
item_with size m later = record { tnf = tnf_of (code m.tnf); kind = m.kind; id = unwrap_or (written_id m.id) []; payload = first_part size m.payload ++ later }

item_alike : (first last : Bool) (size : Option ℕ) (m : Item) → run_record (cut_run first last size m) ≡ run_record (cut_run true true size m)
item_alike first last size m = ap (item_with size m) (payload_alike last (later_parts size m.payload))

piece_alike : (p q : Piece) → q.tnf ≡ p.tnf → q.kind ≡ p.kind → q.id ≡ p.id → q.payload ≡ p.payload → IsPiece p → IsPiece q
piece_alike p q t k i n h = record {
  tnf = subst (λ x. x < 8) (sym t) h.tnf;
  kind = subst AreOctets (sym k) h.kind;
  kind_length = subst (λ x. length x < 256) (sym k) h.kind_length;
  id = subst (λ x. AreOctets (unwrap_or x [])) (sym i) h.id;
  id_length = subst (λ x. length (unwrap_or x []) < 256) (sym i) h.id_length;
  payload = subst AreOctets (sym n) h.payload;
  payload_length = subst (λ x. length x < 2 ^ 32) (sym n) h.payload_length;
}

later_alike : (last : Bool) (ps : List (List ℕ)) (bytes : List ℕ) → SpellsPieces (later_pieces true ps) bytes → AllByRecursion IsPiece (later_pieces last ps)
later_alike last [] bytes s = tt
later_alike last (p ∷ ps) bytes s = (piece_alike _ (later_piece (none_left ps && last) (not (none_left ps)) p) refl refl refl refl s.4.piece, later_alike last ps s.2 s.5)

-- what a record is, in its pieces
record Spelled (profile : Profile) (first last : Bool) (size : Option ℕ) (m : Item) : Type 0 where
  run : IsRun profile (cut_run first last size m)
  item : run_record (cut_run first last size m) ≡ m
  are : AllByRecursion IsPiece (pieces (cut_run first last size m))

alone : (m : Item) → IsItem m → AreItems (m ∷ [])
alone m i = record { some = omega arith; few = omega arith; each = (i, tt) }

spelled_as : WrittenIsSpelled → (profile : Profile) (first last : Bool) (size : Option ℕ) (m : Item) → ForSome size (λ n. 1 ≤ n) → IsItem m → Spelled profile first last size m
spelled_as written profile first last size m some i =
    let s = written profile Short size (m ∷ []) some (alone m i) in
    let spelled = s.spelled in
    record {
      run = run_alike profile first last size m s.message.each_run.0;
      item = item_alike first last size m ∙ head_same _ _ s.message.items;
      are = (
        piece_alike (cut_run true true size m).initial (cut_run first last size m).initial refl refl refl refl spelled.4.piece,
        later_alike last (later_parts size m.payload) spelled.2 (subst (λ ps. SpellsPieces ps spelled.2) (append-nil (later_pieces true (later_parts size m.payload))) spelled.5),
      );
    }
  where
    head_same : (x y : Item) → ◌≡◌ {A = List Item} (x ∷ []) (y ∷ []) → x ≡ y
    head_same x y e = cc

-- ---- the records of a message

size_some : (n : ℕ) → ForSome (if n == 0 then None else Some n) (λ k. 1 ≤ k)
size_some zero = λ k e. absurd (cc)
size_some (suc n) = λ k e.
    let some : ◌≡◌ {A = Option ℕ} (Some (suc n)) (Some k) = ap (λ b. if b then None else Some (suc n)) (sym (ne_eqb (suc n) 0 (omega arith))) ∙ e in
    let same : suc n ≡ k = cc in
    omega (arith, same)

spelled_in : WrittenIsSpelled → (profile : Profile) (first last : Bool) (a : Appended) → IsItem a.item → Spelled profile first last (size_of a.how) a.item
spelled_in written profile first last a i = spelled_as written profile first last (size_of a.how) a.item (size_some a.how.chunk) i

-- the runs, the last of them marked as such
abbrev runs_of : Bool → List Appended → Appended → List Run
runs_of first [] last = cut_run first true (size_of last.how) last.item ∷ []
runs_of first (a ∷ others) last = cut_run first false (size_of a.how) a.item ∷ runs_of false others last

abbrev octets_of : Bool → List Appended → Appended → List ℕ
octets_of first records last = followed_octets first records ++ appended_octets (opens first records) last.how last.item

module _ (written : WrittenIsSpelled) (profile : Profile) where
  each_run : (first : Bool) (records : List Appended) (last : Appended) → AllByRecursion (λ a. IsItem a.item) (records ++ last ∷ []) → AllByRecursion (IsRun profile) (runs_of first records last)
  each_run first [] last h = ((spelled_in written profile first true last h.0).run, tt)
  each_run first (a ∷ others) last h = ((spelled_in written profile first false a h.0).run, each_run false others last h.1)

  items : (first : Bool) (records : List Appended) (last : Appended) → AllByRecursion (λ a. IsItem a.item) (records ++ last ∷ []) → map run_record (runs_of first records last) ≡ map (λ a. a.item) (records ++ last ∷ [])
  items first [] last h = ap (λ x. x ∷ []) (spelled_in written profile first true last h.0).item
  items first (a ∷ others) last h = ap₂ (λ x xs. x ∷ xs) (spelled_in written profile first false a h.0).item (items false others last h.1)

shapes : (xs : List Appended) → AllByRecursion (λ a. IsItem a.item) xs → AllByRecursion IsShaped (map (λ a. a.item) xs)
shapes [] h = tt
shapes (a ∷ xs) h = (h.0.shaped, shapes xs h.1)

-- ---- where it begins and ends

later_firsts : (last : Bool) (ps : List (List ℕ)) → AllByRecursion (λ q. q.first ≡ false) (later_pieces last ps)
later_firsts last [] = tt
later_firsts last (p ∷ ps) = (refl, later_firsts last ps)

firsts : (records : List Appended) (last : Appended) → AllByRecursion (λ q. q.first ≡ false) (all_pieces (runs_of false records last))
firsts [] last = all_append (λ q. q.first ≡ false) (pieces (cut_run false true (size_of last.how) last.item)) [] (refl, later_firsts true (later_parts (size_of last.how) last.item.payload)) tt
firsts (a ∷ others) last =
    all_append (λ q. q.first ≡ false) (pieces (cut_run false false (size_of a.how) a.item)) _ (refl, later_firsts false (later_parts (size_of a.how) a.item.payload)) (firsts others last)

begins : (records : List Appended) (last : Appended) → BeginsOnce (all_pieces (runs_of true records last))
begins [] last = (refl, all_append (λ q. q.first ≡ false) (later_pieces true (later_parts (size_of last.how) last.item.payload)) [] (later_firsts true (later_parts (size_of last.how) last.item.payload)) tt)
begins (a ∷ others) last =
    (refl, all_append (λ q. q.first ≡ false) (later_pieces false (later_parts (size_of a.how) a.item.payload)) _ (later_firsts false (later_parts (size_of a.how) a.item.payload)) (firsts others last))

not_lasts : (ps : List (List ℕ)) → AllByRecursion (λ q. q.last ≡ false) (later_pieces false ps)
not_lasts [] = tt
not_lasts (p ∷ ps) = (and-false (none_left ps), not_lasts ps)

ends-cons : (p : Piece) (qs : List Piece) → p.last ≡ false → EndsOnce qs → EndsOnce (p ∷ qs)
ends-cons p [] e h = absurd h
ends-cons p (q ∷ qs) e h = (e, h)

ends-append : (ps qs : List Piece) → AllByRecursion (λ q. q.last ≡ false) ps → EndsOnce qs → EndsOnce (ps ++ qs)
ends-append [] qs a h = h
ends-append (p ∷ ps) qs a h = ends-cons p (ps ++ qs) a.0 (ends-append ps qs a.1 h)

ends-run : (p : Piece) (ps : List (List ℕ)) → p.last ≡ (none_left ps && true) → EndsOnce (p ∷ later_pieces true ps)
ends-run p [] e = e
ends-run p (q ∷ ps) e = (e, ends-run (later_piece (none_left ps && true) (not (none_left ps)) q) ps refl)

ends : (first : Bool) (records : List Appended) (last : Appended) → EndsOnce (all_pieces (runs_of first records last))
ends first [] last =
    subst EndsOnce (sym (append-nil (pieces (cut_run first true (size_of last.how) last.item))))
    (ends-run (cut_run first true (size_of last.how) last.item).initial (later_parts (size_of last.how) last.item.payload) refl)
ends first (a ∷ others) last =
    ends-append (pieces (cut_run first false (size_of a.how) a.item)) (all_pieces (runs_of false others last))
    (and-false (none_left (later_parts (size_of a.how) a.item.payload)), not_lasts (later_parts (size_of a.how) a.item.payload)) (ends false others last)

-- ---- its octets

spells_all : PiecesAreSpelled → (form : Form) (ps : List Piece) → AllByRecursion IsPiece ps → SpellsPieces ps (flat_map (written_piece form) ps)
spells_all by form [] h = refl
spells_all by form (p ∷ ps) h = (is_short form (length p.payload), written_piece form p, flat_map (written_piece form) ps, refl, by form p h.0, spells_all by form ps h.1)

spells_both : (ps qs : List Piece) (x y : List ℕ) → SpellsPieces ps x → SpellsPieces qs y → SpellsPieces (ps ++ qs) (x ++ y)
spells_both [] qs x y s t = subst (λ z. SpellsPieces qs (z ++ y)) (sym s) t
spells_both (p ∷ ps) qs x y s t = (s.0, s.1, s.2 ++ y, ap (λ z. z ++ y) s.3 ∙ append_assoc s.1 s.2 y, s.4, spells_both ps qs s.2 y s.5 t)

module _ (written : WrittenIsSpelled) (by : PiecesAreSpelled) (profile : Profile) where
  spelled : (first : Bool) (records : List Appended) (last : Appended) → AllByRecursion (λ a. IsItem a.item) (records ++ last ∷ []) → SpellsPieces (all_pieces (runs_of first records last)) (octets_of first records last)
  spelled first [] last h =
      subst (λ ps. SpellsPieces ps (appended_octets first last.how last.item)) (sym (append-nil (pieces (cut_run first true (size_of last.how) last.item))))
      (spells_all by (form_of last.how) (pieces (cut_run first true (size_of last.how) last.item)) (spelled_in written profile first true last h.0).are)
  spelled first (a ∷ others) last h =
      let front = record_octets (form_of a.how) first false (size_of a.how) a.item in
      let s = spells_both (pieces (cut_run first false (size_of a.how) a.item)) _ front _
      (spells_all by (form_of a.how) (pieces (cut_run first false (size_of a.how) a.item)) (spelled_in written profile first false a h.0).are) (spelled false others last h.1) in
      subst (SpellsPieces (all_pieces (runs_of first (a ∷ others) last)))
      (ap (λ o. front ++ (followed_octets false others ++ appended_octets o last.how last.item)) (none_opens others)
      ∙ sym (append_assoc front (followed_octets false others) (appended_octets false last.how last.item))) s

pub held_are_a_message : WrittenIsSpelled → PiecesAreSpelled → HeldAreAMessage
held_are_a_message written by profile records last h held each = (
  runs_of true records last,
  record {
    message = record {
      each_run = each_run written profile true records last each;
      items = items written profile true records last each;
      shaped = shapes (records ++ last ∷ []) each;
      begins = begins records last;
      ends = ends true records last;
    };
    spelled = subst (SpellsPieces (all_pieces (runs_of true records last))) (sym held.bytes) (spelled written by profile true records last each);
  },
)
