-- The records of a message, one after another.
use Rattle.std.proofs.Common.{◌≡◌, ◌≢◌, ℕ, ◌-◌, ◌<◌, ◌≤◌, ◌++◌, ◌∷◌, [], take, drop, refl, sym, ◌∙◌, ap, subst, arith, true, false, true≢false, List, length, length-append, append_assoc, map, take_at, Some}
use Rattle.std.specs.List.{AllByRecursion}
use Rattle.std.specs.Prelude.{slice_get, unwrap_or}
use Rattle.std.proofs.lemmas.List.{length-map, map-append}
use Rattle.ndef_format.specs.Records.{Run}
use Rattle.ndef_format.specs.Messages.{run_record}
use Rattle.ndef_format.specs.HeadReasons.{is_set}
use Rattle.ndef_piece.specs.Heads.{HeadsAreUnambiguous}
use Rattle.ndef_types.specs.Contents.{IsFirstAt, Lack}
use Rattle.ndef_types.specs.Links.{HasId, IsIndexOf}
use Rattle.ndef_c.specs.Links.{BeginsWithRuns, IsPlaceOf}
use Rattle.ndef_c.specs.Runs.{HasRun, IsFirstRun}
use Rattle.ndef_c.specs.Walks.{AreWalked, BeginsWithRun, LieBetween, ends_message, is_last_run}
use Rattle.ndef_c.specs.declared.message.Place.{Place}
use Rattle.ndef_c.specs.declared.run.FirstRun.{FirstRun}
use Rattle.ndef_c.proofs.Ahead.{first_at, get_after, lack_on}
use Rattle.ndef_c.proofs.Followed.{initial_of, one_record, split_size}
use Rattle.ndef_c.proofs.Places.{ends, id_is}

-- ---- one more run

-- it doesn't end its message
abbrev pub IsAmid : Run → Type 0
IsAmid r = ends_message r.initial r.later ≡ false

not_last : (done : List Run) (r : Run) → is_last_run (done ++ r ∷ []) ≡ false
not_last [] r = refl
not_last (d ∷ done) r = refl

pub walked_to : (bytes : List ℕ) (from at next : ℕ) (done : List Run) (r : Run) → LieBetween bytes from done at → AllByRecursion IsAmid done
    → BeginsWithRun r (drop next bytes) (drop at bytes) → ends_message r.initial r.later ≡ true → AreWalked bytes from (done ++ r ∷ []) next
walked_to bytes from at next [] r l h b e = (next, subst (λ n. BeginsWithRun r (drop next bytes) (drop n bytes)) (sym l) b, e, refl)
walked_to bytes from at next (d ∷ done) r l h b e = (l.0, l.1, h.0 ∙ sym (not_last done r), walked_to bytes l.0 at next done r l.2 h.1 b e)

pub some_runs : (done : List Run) (r : Run) → done ++ r ∷ [] ≢ []
some_runs [] r e = cc
some_runs (d ∷ done) r e = cc

-- ---- those that are left

-- of the runs of the message these lie before the place, and the others from there on
pub record Left (bytes : List ℕ) (runs : List Run) (at : ℕ) (done : List Run) : Type 0 where
  pub more : List Run
  pub all : runs ≡ done ++ more
  pub some : more ≢ []
  pub end : ℕ
  pub walked : AreWalked bytes at more end

pub left_at : (bytes : List ℕ) (runs : List Run) → BeginsWithRuns runs bytes → Left bytes runs 0 []
left_at bytes runs b = record { more = runs; all = refl; some = b.some; end = b.end; walked = b.walked }

there : (bytes : List ℕ) (at : ℕ) (more : List Run) (end : ℕ) → more ≢ [] → AreWalked bytes at more end → HasRun (drop at bytes)
there bytes at [] end s w = absurd (s refl)
there bytes at (r ∷ more) end s w = (r, drop w.0 bytes, w.1)

pub run_there : {bytes : List ℕ} {runs : List Run} {at : ℕ} {done : List Run} → Left bytes runs at done → HasRun (drop at bytes)
run_there {bytes} {runs} {at} {done} l = there bytes at l.more l.end l.some l.walked

-- the run that begins there is one of the message, and the others are left after it
pub record Onward (bytes : List ℕ) (runs : List Run) (next : ℕ) (done : List Run) (run : Run) : Type 0 where
  pub more : List Run
  pub all : runs ≡ done ++ run ∷ more
  pub ends : ends_message run.initial run.later ≡ is_last_run more
  pub left : IsAmid run → Left bytes runs next (done ++ run ∷ [])

left_after : (bytes : List ℕ) (runs done : List Run) (next place : ℕ) (run : Run) (more : List Run) (end : ℕ) → runs ≡ done ++ run ∷ more → drop place bytes ≡ drop next bytes
    → ends_message run.initial run.later ≡ is_last_run more → IsAmid run → AreWalked bytes place more end → Left bytes runs next (done ++ run ∷ [])
left_after bytes runs done next place run [] end a d l e w = absurd (true≢false (sym l ∙ e))
left_after bytes runs done next place run (q ∷ more) end a d l e w = record {
  more = q ∷ more;
  all = a ∙ sym (append_assoc done (run ∷ []) (q ∷ more));
  some = λ x. cc;
  end = end;
  walked = (w.0, subst (BeginsWithRun q (drop w.0 bytes)) d w.1, w.2, w.3);
}

onward_in : HeadsAreUnambiguous → (bytes : List ℕ) (runs done : List Run) (at next : ℕ) (run : Run) (more : List Run) (end : ℕ) → runs ≡ done ++ more → more ≢ [] → AreWalked bytes at more end
    → BeginsWithRun run (drop next bytes) (drop at bytes) → Onward bytes runs next done run
onward_in apart bytes runs done at next run [] end a s w b = absurd (s refl)
onward_in apart bytes runs done at next run (r ∷ more) end a s w b =
    let o = one_record r run (drop w.0 bytes) (drop next bytes) (drop at bytes) w.1 b in
    let all : runs ≡ done ++ run ∷ more = a ∙ ap (λ x. done ++ x ∷ more) o.0 in
    let ends : ends_message run.initial run.later ≡ is_last_run more = subst (λ x. ends_message x.initial x.later ≡ is_last_run more) o.0 w.2 in
    record { more = more; all = all; ends = ends; left = λ e. left_after bytes runs done next w.0 run more end all o.1 ends e w.3 }

pub onward : HeadsAreUnambiguous → {bytes : List ℕ} {runs done : List Run} {at : ℕ} → Left bytes runs at done → (next : ℕ) (run : Run) → BeginsWithRun run (drop next bytes) (drop at bytes) → Onward bytes runs next done run
onward apart {bytes} {runs} {done} {at} l next run b = onward_in apart bytes runs done at next run l.more l.end l.all l.some l.walked b

-- ---- where a run ends

-- the run at a place ends at the next one
pub record Next (bytes following rest : List ℕ) (at next : ℕ) (run : Run) : Type 0 where
  pub begins : BeginsWithRun run (drop next bytes) (drop at bytes)
  pub rest_is : rest ≡ drop next bytes
  pub within : next ≤ length bytes
  pub shorter : length rest < length following

pub next_at : (run : Run) (bytes following rest : List ℕ) (at : ℕ) → at ≤ length bytes → following ≡ drop at bytes → BeginsWithRun run rest following → Next bytes following rest at (length bytes - length rest) run
next_at run bytes following rest at h e b =
    let n = ends run bytes following rest at h e b in
    let i = initial_of run rest following b in
    let s = split_size run.initial i.short i.following following i.split in
    let m = ap length i.others.joined ∙ length-append i.others.front rest in
    record {
      begins = subst (BeginsWithRun run (drop (length bytes - length rest) bytes)) e (subst (λ y. BeginsWithRun run y following) (sym n.rest_is) b);
      rest_is = sym n.rest_is;
      within = omega arith;
      shorter = omega (arith, s, m);
    }

-- ---- the record with an id

pub index_of : (runs done : List Run) (run : Run) (more : List Run) (id : List ℕ) (index : ℕ) → runs ≡ done ++ run ∷ more → 0 < length id → index ≡ length done → Lack (HasId id) (map run_record done)
    → HasId id (run_record run) → IsIndexOf (map run_record runs) id (Some index)
index_of runs done run more id index a some n lack has =
    let all : map run_record runs ≡ map run_record done ++ run_record run ∷ map run_record more = ap (map run_record) a ∙ map-append run_record done (run ∷ more) in
    let count : length (map run_record done) ≡ index = length-map done run_record ∙ sym n in
    (λ e. let none = ap length e in omega (arith, none, some), run_record run, subst (λ k. IsFirstAt (HasId id) (map run_record runs) k (run_record run)) count (first_at (HasId id) (map run_record runs) (map run_record done) (run_record run) (map run_record more, all) lack has))

pub place_of : (bytes : List ℕ) (runs done : List Run) (run : Run) (more : List Run) (at next : ℕ) (p : Place) → runs ≡ done ++ run ∷ more → LieBetween bytes 0 done at → BeginsWithRun run (drop next bytes) (drop at bytes)
    → p.index ≡ length done → p.at ≡ at → IsPlaceOf bytes runs p
place_of bytes runs done run more at next p a l b n e = record {
  run = run;
  is = ap (λ k. slice_get runs k) n ∙ ap (λ rs. slice_get rs (length done)) a ∙ get_after done run more;
  before = subst (λ rs. LieBetween bytes 0 rs p.at) (sym (ap (λ k. take k runs) n ∙ ap (take (length done)) a ∙ take_at done (run ∷ more) (length done) refl)) (subst (LieBetween bytes 0 done) (sym e) l);
  rest = drop next bytes;
  begins = subst (λ k. BeginsWithRun run (drop next bytes) (drop k bytes)) (sym e) b;
}

pub lack_all : (done : List Run) (run : Run) (id : List ℕ) → Lack (HasId id) (map run_record done) → (HasId id (run_record run) → ⊥) → Lack (HasId id) (map run_record (done ++ run ∷ []))
lack_all done run id lack h = subst (Lack (HasId id)) (sym (map-append run_record done (run ∷ []))) (lack_on (HasId id) (map run_record done) (run_record run) lack h)

-- the id that is shown of a run
pub id_of : {bytes : List ℕ} (f : FirstRun) → (x : IsFirstRun bytes f) → (run_record x.run).id ≡ f.first.id.now
id_of {bytes} f x = ap (λ q. unwrap_or q.id []) (sym x.initial) ∙ id_is (is_set 3 f.first.header) f.first.id.now x.no_id
