-- The records that are ahead in a message of one piece a record.
use Rattle.std.proofs.Common.{◌≡◌, ℕ, suc, ◌+◌, ◌∷◌, [], take, drop, refl, sym, ◌∙◌, ap, subst, arith, ne_eqb, Bool, false, true≢false, List, drop_at, ◌++◌, length, map, append-nil, take_at, Some, inl, inr}
use Rattle.std.specs.List.{AllByRecursion}
use Rattle.std.specs.Prelude.{◌==◌, true, slice_get}
use Rattle.std.proofs.lemmas.List.{drop-drop, map-append}
use Rattle.ndef_value.specs.ListLaws.{all_back}
use Rattle.ndef_format.specs.Messages.{BeginsOnce, Item, SpellsPieces, all_pieces, payload_of, run_record}
use Rattle.ndef_format.specs.Records.{Follow, Piece, Run}
use Rattle.ndef_format.specs.declared.profile.Profile.{Profile}
use Rattle.ndef_piece.specs.Whole.{IsSplit}
use Rattle.ndef_types.specs.Contents.{IsFirstOf, IsFirstAt, Lack}
use Rattle.ndef_c.specs.Nested.{IsFound, MayBeInPieces, StandsAt}
use Rattle.ndef_c.specs.Walks.{AreWalked, BeginsWithRun, IsOver, IsRecordAt, Lies}
use Rattle.ndef_c.specs.declared.nested.Found.{Found}
use Rattle.ndef_c.specs.declared.record.NdefRecord.{NdefRecord}
use Rattle.ndef_c.specs.declared.walk.Walk.{Walk}
use Rattle.ndef_c.proofs.Followed.{Later, begins_with, later_nil, split_size}
use Rattle.ndef_c.proofs.Places.{none_beyond}
use Rattle.ndef_c.proofs.Walked.{walked}
use Rattle.ndef_c.proofs.Walking.{Begins, Here, Left, all_passed, onward}

-- of the records these are done, and a walk is to pass the others
pub record Ahead (items : List Item) (bytes : List ℕ) (w : Walk) (done : List Item) : Type 0 where
  pub runs : List Run
  pub are : items ≡ map run_record runs
  pub single : AllByRecursion (λ r. r.later ≡ []) runs
  pub passed : List Run
  pub reported : map run_record passed ≡ done
  pub left : Left bytes runs w passed

pub none_left : (left : List Run) → SpellsPieces (all_pieces left) [] → left ≡ []
none_left [] w = refl
none_left (r ∷ left) w =
    let n = split_size r.initial w.0 w.2 [] (record { front = w.1; spells = w.4; joined = w.3 }) in
    absurd (omega (arith, n))

pub ahead_in : (profile : Profile) (items : List Item) (bytes : List ℕ) {w : Walk} → Begins bytes 0 w → MayBeInPieces profile items bytes → Ahead items bytes w []
ahead_in profile items bytes {w} b (inl h) =
    let n = ap length h.1 in
    record {
      runs = [];
      are = h.0;
      single = tt;
      passed = [];
      reported = refl;
      left = record {
        same = b.same;
        before = sym b.place;
        more = [];
        all = refl;
        end = w.at;
        walked = refl;
        going = λ some. absurd (some refl);
        over = λ _. inr (refl, none_beyond bytes w.at (omega (arith, n)));
      };
    }
ahead_in profile items bytes {w} b (inr h) =
    let m = h.spelling.message in
    let some : h.runs ≡ [] → ⊥ = λ e. subst (λ rs. BeginsOnce (all_pieces rs)) e m.begins in
    let w0 : AreWalked bytes 0 h.runs (0 + length bytes) = walked profile h.runs bytes [] bytes 0 m.each_run h.spelling.spelled some m.ends [] (sym (append-nil bytes)) refl in
    record {
      runs = h.runs;
      are = sym m.items;
      single = h.single;
      passed = [];
      reported = refl;
      left = record {
        same = b.same;
        before = sym b.place;
        more = h.runs;
        all = refl;
        end = 0 + length bytes;
        walked = subst (λ k. AreWalked bytes k h.runs (0 + length bytes)) (sym b.place) w0;
        going = λ _. b.going;
        over = λ none. absurd (some none);
      };
    }

-- a run of one piece has the payload of it, and ends where it ends
one_payload : (r : Run) → r.later ≡ [] → r.initial.payload ≡ (run_record r).payload
one_payload r e = sym (ap (λ ps. r.initial.payload ++ payload_of ps) e ∙ append-nil r.initial.payload)

one_piece : (r : Run) (short : Bool) (rest following bytes : List ℕ) → r.later ≡ [] → BeginsWithRun r rest bytes → IsSplit r.initial short following bytes → BeginsWithRun r following bytes
one_piece r short rest following bytes e b s =
    let whole : r.initial.chunked ≡ false = subst (Follow r.initial.chunked) e b.read.follow in
    subst (λ ps. BeginsWithRun (record { initial = r.initial; later = ps }) following bytes) (sym e)
    (begins_with r.initial [] short following following bytes b.read.initial s (subst (λ c. Later c [] following following) (sym whole) (later_nil following)))

-- the next record, and those after it
pub record Reached (items : List Item) (bytes : List ℕ) (done : List Item) (r : NdefRecord) (run : Run) (after : Walk) : Type 0 where
  pub within : (more : List Item) × (items ≡ done ++ run_record run ∷ more)
  pub one : run.initial.payload ≡ (run_record run).payload
  pub stands : StandsAt bytes done (run_record run) r.payload_at
  pub next : Ahead items bytes after (done ++ run_record run ∷ [])

pub reached : {items done : List Item} {bytes : List ℕ} {w : Walk} {r : NdefRecord} {after : Walk} → Ahead items bytes w done → (h : Here bytes w r after) → Reached items bytes done r h.there.run after
reached {items} {done} {bytes} {w} {r} {after} k h =
    let run = h.there.run in
    let o = onward k.left h in
    let all : items ≡ map run_record k.passed ++ run_record run ∷ map run_record o.more = k.are ∙ ap (map run_record) o.all ∙ map-append run_record k.passed (run ∷ o.more) in
    let single : run.later ≡ [] = (all_back (λ r. r.later ≡ []) k.passed (run ∷ o.more) (subst (AllByRecursion (λ r. r.later ≡ [])) o.all k.single)).0 in
    let same = one_payload run single in
    let place : r.payload_at + r.part_length ≡ r.payload_at + length (run_record run).payload = ap (λ n. r.payload_at + n) (h.there.part.count_is ∙ ap length same) in
    record {
      within = (map run_record o.more, all ∙ ap (λ xs. xs ++ run_record run ∷ map run_record o.more) k.reported);
      one = same;
      stands = record {
        runs = k.passed;
        are = k.reported;
        from = w.at;
        between = k.left.before;
        run = run;
        is = refl;
        single = single;
        begins = subst (λ n. BeginsWithRun run (drop n bytes) (drop w.at bytes)) place (one_piece run h.there.first.0 _ _ _ single h.there.begins h.there.first.1);
      };
      next = record {
        runs = k.runs;
        are = k.are;
        single = k.single;
        passed = k.passed ++ run ∷ [];
        reported = map-append run_record k.passed (run ∷ []) ∙ ap (λ xs. xs ++ run_record run ∷ []) k.reported;
        left = o.left;
      };
    }

-- where no more come all were passed
pub all_done : {items done : List Item} {bytes : List ℕ} {w : Walk} → Ahead items bytes w done → IsOver w → items ≡ done
all_done k o = k.are ∙ ap (map run_record) (all_passed k.left o).are ∙ k.reported

-- ---- the first with a property

pub lack_on : (P : Item → Type 0) (xs : List Item) (i : Item) → Lack P xs → (P i → ⊥) → Lack P (xs ++ i ∷ [])
lack_on P [] i h k = (k, tt)
lack_on P (x ∷ xs) i h k = (h.0, lack_on P xs i h.1 k)

pub get_after : {X : Type 0} (xs : List X) (i : X) (more : List X) → slice_get (xs ++ i ∷ more) (length xs) ≡ Some i
get_after [] i more = refl
get_after (x ∷ xs) i more = get_after xs i more

pub first_at : (P : Item → Type 0) (items done : List Item) (i : Item) → (more : List Item) × (items ≡ done ++ i ∷ more) → Lack P done → P i → IsFirstAt P items (length done) i
first_at P items done i w lack has = record {
  at = ap (λ xs. slice_get xs (length done)) w.1 ∙ get_after done i w.0;
  has = has;
  before = subst (Lack P) (sym (ap (take (length done)) w.1 ∙ take_at done (i ∷ w.0) (length done) refl)) lack;
}

pub first_is : (P : Item → Type 0) (items done : List Item) (i : Item) → (more : List Item) × (items ≡ done ++ i ∷ more) → Lack P done → P i → IsFirstOf P items (Some i)
first_is P items done i w lack has = (length done, first_at P items done i w lack has)

-- its payload, by the record at its place
pub found_of : (Q : List Item → Type 0) (bytes : List ℕ) (at : ℕ) (r : NdefRecord) (x : IsRecordAt bytes at r) (f : Found) → f.at ≡ r.payload_at → f.payload.now ≡ x.run.initial.payload
    → x.run.initial.payload ≡ (run_record x.run).payload → (done : List Item) → Q done → StandsAt bytes done (run_record x.run) r.payload_at → IsFound Q bytes (run_record x.run) f
found_of Q bytes at r x f a e one done q s =
    let lies : Lies bytes f.at (length f.payload.now) x.run.initial.payload = rw (a, e) (subst (λ n. Lies bytes r.payload_at n x.run.initial.payload) x.part.count_is x.part) in
    record { payload = e ∙ one; lies = subst (Lies bytes f.at (length f.payload.now)) one lies; place = (done, q, subst (StandsAt bytes done (run_record x.run)) (sym a) s) }

-- ---- the bytes that are left

pub empty_rest : (rest : List ℕ) → (length rest == 0) ≡ true → rest ≡ []
empty_rest [] e = refl
empty_rest (x ∷ rest) e = absurd (true≢false (sym e ∙ ne_eqb (suc (length rest)) 0 (omega arith)))

pub after_piece : (p : Piece) (short : Bool) (following rest bytes : List ℕ) (at : ℕ) → rest ≡ drop at bytes → (i : IsSplit p short following rest) → following ≡ drop (at + length i.front) bytes
after_piece p short following rest bytes at e i =
    sym (drop_at i.front following (length i.front) refl) ∙ ap (drop (length i.front)) (sym i.joined ∙ e) ∙ drop-drop (length i.front) at bytes
