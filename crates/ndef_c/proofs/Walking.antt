-- The records of a message that a walk has passed, and those that are left.
use Rattle.std.proofs.Common.{◌≡◌, ◌≢◌, ℕ, ◌∷◌, [], List, ◌++◌, drop, refl, sym, ◌∙◌, ap, subst, true, false, true≢false, append_assoc, append-nil, ◌⊎◌, inl, inr}
use Rattle.ndef_format.specs.Records.{Run}
use Rattle.ndef_c.specs.Links.{BeginsWithRuns}
use Rattle.ndef_c.specs.Walks.{AreWalked, BeginsWithRun, IsOver, IsRecordAt, IsRecordThere, LieBetween, PassesOver, ends_message, is_last_run}
use Rattle.ndef_c.specs.declared.record.NdefRecord.{NdefRecord}
use Rattle.ndef_c.specs.declared.walk.Walk.{Walk}
use Rattle.ndef_c.proofs.Followed.{one_record}
use Rattle.ndef_c.proofs.Walked.{between_on}

-- the walk begins at the place
pub record Begins (bytes : List ℕ) (at : ℕ) (w : Walk) : Type 0 where
  pub same : w.bytes.now ≡ bytes
  pub place : w.at ≡ at
  pub going : w.ended ≡ false

-- .. as it was made
pub begins : {bytes : List ℕ} {at : ℕ} {made w : Walk} → w ≡ made → made.bytes.now ≡ bytes → made.at ≡ at → made.ended ≡ false → Begins bytes at w
begins {bytes} {at} {made} {w} e s p g = subst (Begins bytes at) (sym e) (record { same = s; place = p; going = g })

-- a record that a walk over these bytes passes
pub record Here (bytes : List ℕ) (w : Walk) (r : NdefRecord) (after : Walk) : Type 0 where
  pub going : w.ended ≡ false
  pub there : IsRecordAt bytes w.at r
  pub same : after.bytes.now ≡ bytes
  pub next : after.at ≡ r.end
  pub ends : after.ended ≡ ends_message there.run.initial there.run.later

pub here : (bytes : List ℕ) (w : Walk) (r : NdefRecord) (after : Walk) → PassesOver w r after → w.bytes.now ≡ bytes → Here bytes w r after
here bytes w r after p e = subst (λ b. Here b w r after) e (record { going = p.going; there = p.record_is; same = p.same; next = p.next; ends = p.ends })

-- it ends where the walk goes on
pub begins_here : {bytes : List ℕ} {w : Walk} {r : NdefRecord} {after : Walk} (h : Here bytes w r after) → BeginsWithRun h.there.run (drop after.at bytes) (drop w.at bytes)
begins_here {bytes} {w} {r} {after} h = subst (λ k. BeginsWithRun h.there.run (drop k bytes) (drop w.at bytes)) (sym h.next) h.there.begins

-- a record lies there too in the same bytes, as the same run
pub moved : {bytes other : List ℕ} {at : ℕ} {r : NdefRecord} → bytes ≡ other → (x : IsRecordAt bytes at r) → (y : IsRecordAt other at r) × (y.run ≡ x.run)
moved {bytes} {other} {at} {r} e x = subst (λ b. (y : IsRecordAt b at r) × (y.run ≡ x.run)) e (x, refl)

-- of the runs of a message these were passed, and the others lie from the place of the walk on
pub record Left (bytes : List ℕ) (runs : List Run) (w : Walk) (done : List Run) : Type 0 where
  pub same : w.bytes.now ≡ bytes
  pub before : LieBetween bytes 0 done w.at
  pub more : List Run
  pub all : runs ≡ done ++ more
  pub end : ℕ
  pub walked : AreWalked bytes w.at more end
  pub going : more ≢ [] → w.ended ≡ false
  pub over : more ≡ [] → (w.ended ≡ true) ⊎ ((runs ≡ []) × ¬ IsRecordThere bytes w.at)

pub left_at : {bytes : List ℕ} {w : Walk} (runs : List Run) → BeginsWithRuns runs bytes → Begins bytes 0 w → Left bytes runs w []
left_at {bytes} {w} runs b s = record {
  same = s.same;
  before = sym s.place;
  more = runs;
  all = refl;
  end = b.end;
  walked = subst (λ k. AreWalked bytes k runs b.end) (sym s.place) b.walked;
  going = λ _. s.going;
  over = λ none. absurd (b.some none);
}

pub some_last : (rs : List Run) → rs ≢ [] → is_last_run rs ≡ false
some_last [] h = absurd (h refl)
some_last (r ∷ rs) h = refl

-- the same runs, where the bytes from another place on are the same
from_there : (bytes : List ℕ) (x y : ℕ) (runs : List Run) (end : ℕ) → drop x bytes ≡ drop y bytes → AreWalked bytes x runs end → (last : ℕ) × AreWalked bytes y runs last
from_there bytes x y [] end e w = (y, refl)
from_there bytes x y (r ∷ runs) end e w = (end, (w.0, subst (BeginsWithRun r (drop w.0 bytes)) e w.1, w.2, w.3))

-- the record that the walk passes is the next of the message
pub record Onward (bytes : List ℕ) (runs done : List Run) (run : Run) (after : Walk) : Type 0 where
  pub more : List Run
  pub all : runs ≡ done ++ run ∷ more
  pub left : Left bytes runs after (done ++ run ∷ [])

pub onward : {bytes : List ℕ} {runs done : List Run} {w : Walk} {r : NdefRecord} {after : Walk} → Left bytes runs w done → (h : Here bytes w r after) → Onward bytes runs done h.there.run after
onward {bytes} {runs} {done} {w} {r} {after} l h = by_more l.more l.all l.end l.walked l.over
  where
    by_more : (more : List Run) → runs ≡ done ++ more → (end : ℕ) → AreWalked bytes w.at more end → (more ≡ [] → (w.ended ≡ true) ⊎ ((runs ≡ []) × ¬ IsRecordThere bytes w.at)) → Onward bytes runs done h.there.run after
    by_more [] all end walked over = elim (over refl) [
      | inl e ↦ absurd (true≢false (sym e ∙ h.going))
      | inr n ↦ absurd (n.1 (h.there.run, drop r.end bytes, h.there.begins))
    ]
    by_more (q ∷ more) all end walked over =
        let run = h.there.run in
        let o = one_record q run (drop walked.0 bytes) (drop r.end bytes) (drop w.at bytes) walked.1 h.there.begins in
        let ends : after.ended ≡ is_last_run more = h.ends ∙ subst (λ x. ends_message x.initial x.later ≡ is_last_run more) o.0 walked.2 in
        let rest = from_there bytes walked.0 after.at more end (o.1 ∙ ap (λ k. drop k bytes) (sym h.next)) walked.3 in
        let whole : runs ≡ done ++ run ∷ more = all ∙ ap (λ x. done ++ x ∷ more) o.0 in
        record {
          more = more;
          all = whole;
          left = record {
            same = h.same;
            before = between_on bytes 0 w.at after.at done run l.before (begins_here h);
            more = more;
            all = whole ∙ sym (append_assoc done (run ∷ []) more);
            end = rest.0;
            walked = rest.1;
            going = λ some. ends ∙ some_last more some;
            over = λ none. inl (ends ∙ ap is_last_run none);
          };
        }

-- where no more come all were passed, and the last of them ended the message
pub record AllPassed (runs done : List Run) (w : Walk) : Type 0 where
  pub are : runs ≡ done
  pub ended : runs ≢ [] → w.ended ≡ true

pub all_passed : {bytes : List ℕ} {runs done : List Run} {w : Walk} → Left bytes runs w done → IsOver w → AllPassed runs done w
all_passed {bytes} {runs} {done} {w} l o = by_more l.more l.all l.walked l.going l.over
  where
    by_more : (more : List Run) → runs ≡ done ++ more → AreWalked bytes w.at more l.end → (more ≢ [] → w.ended ≡ false) → (more ≡ [] → (w.ended ≡ true) ⊎ ((runs ≡ []) × ¬ IsRecordThere bytes w.at)) → AllPassed runs done w
    by_more [] all walked going over = record { are = all ∙ append-nil done; ended = λ some. elim (over refl) [ inl e ↦ e | inr n ↦ absurd (some n.0) ] }
    by_more (q ∷ more) all walked going over = absurd (elim o [
      | inl e ↦ true≢false (sym e ∙ going (λ x. cc))
      | inr n ↦ n (subst (λ b. IsRecordThere b w.at) (sym l.same) (q, drop walked.0 bytes, walked.1))
    ])
