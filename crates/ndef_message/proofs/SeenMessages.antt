-- The view of a message that was checked.
use Rattle.std.proofs.Common.{◌≡◌, ℕ, ◌<◌, ◌≤◌, ◌^◌, refl, sym, ◌∙◌, ap, subst, arith, List, [], ◌∷◌, length, map, take, length-take-le, Ok}
use Rattle.std.specs.List.{AllByRecursion}
use Rattle.ndef_format.specs.Records.{Run, pieces, IsRun}
use Rattle.ndef_format.specs.Messages.{Item, all_pieces, payload_of, run_record, IsShaped, SpellsBy, BeginsOnce}
use Rattle.ndef_format.specs.Limits.{LimitValues, AreInRange}
use Rattle.ndef_format.specs.Laws.{OneMeaning, NoPrefixIsAccepted}
use Rattle.ndef_format.specs.declared.profile.Profile.{Profile}
use Rattle.ndef_format.specs.Payloads.{Sets}
use Rattle.ndef_format.specs.Reasons.{Conditions}
use Rattle.ndef_message.specs.Checkings.{HasRecords}
use Rattle.ndef_format.specs.Accepted.{Accepted, IsMember}
use Rattle.ndef_message.specs.Machine.Seen.{AreRuns, AreChecked, IsSeenRecord, pieces_of, runs_of, viewed_of}
use Rattle.ndef_message.specs.Views.{Viewed, Views, OneView, NeverRefusedInView}
use Rattle.ndef_message.proofs.ReadBack.{one_front}
use Rattle.ndef_message.specs.Machine.SeenLaws.{pieces_reported, runs_reported, follow_of_read, flat_reported}

-- whole runs are determined by their bytes
pub whole_reported : {bytes : List ℕ} (a : AreRuns bytes) → runs_of (pieces_of bytes) ≡ a.runs
whole_reported {bytes} a = ap runs_of (pieces_reported (all_pieces a.runs) bytes a.spelled) ∙ runs_reported a.runs (follow_of_read a.runs a.read)

pub length_joined : (rs : List Run) → length (map run_record rs) ≡ length rs
length_joined [] = refl
length_joined (r ∷ rs) = let e = length_joined rs in omega (arith, e)

reads : (profile : Profile) (most : ℕ) (rs : List Run) → most < 2 ^ 32 → AllByRecursion (IsRun profile) rs → AllByRecursion IsShaped (map run_record rs)
    → AllByRecursion (λ r. length (payload_of (pieces r)) ≤ most) rs → AllByRecursion IsSeenRecord rs
reads profile most [] n a b c = tt
reads profile most (r ∷ rs) n a b c =
    (record { follow = a.0.follow; shaped = b.0; small = let k = c.0 in omega (arith, k, n) }, reads profile most rs n a.1 b.1 c.1)

some_runs : (rs : List Run) → BeginsOnce (all_pieces rs) → 1 ≤ length rs
some_runs [] b = absurd b
some_runs (r ∷ rs) b = omega arith

module _ (set : Sets) (limits : LimitValues) where
  deep_runs : (bytes : List ℕ) (items : List Item) → AreInRange limits → Accepted set limits items bytes → AreRuns bytes
  deep_runs bytes items range d = record {
    runs = d.runs;
    spelled = d.spelling.spelled;
    read = reads limits.profile limits.payload d.runs range.payload.1 d.spelling.message.each_run (subst (AllByRecursion IsShaped) (sym d.spelling.message.items) d.spelling.message.shaped) d.within.small;
  }

  -- the bytes of a message, to be looked at
  pub message_seen : (bytes : List ℕ) (records : ℕ) → AreInRange limits → HasRecords set limits bytes records → AreChecked bytes records
  unfolding deep_runs
  message_seen bytes records range (items, d, n) =
      let k : length items ≡ length d.runs = ap length (sym d.spelling.message.items) ∙ length_joined d.runs in
      let s = some_runs d.runs d.spelling.message.begins in
      let f = d.within.few_records in
      let r = range.records.1 in
      record { whole = deep_runs bytes items range d; records_are = n ∙ k; some = omega (arith, n, k, s); few = omega (arith, n, k, f, r) }

  -- what is seen is the message
  pub views_of : (holds : Conditions) (input : List ℕ) (taken records : ℕ) (profile : Profile) (v : Viewed) → AreInRange limits → taken ≤ length input → HasRecords set limits (take taken input) records → profile ≡ limits.profile
      → v ≡ viewed_of (take taken input) profile → Views set holds limits input (Ok v)
  unfolding deep_runs
  views_of holds input taken records profile v range n (items, d, k) p e =
      let runs : v.runs ≡ d.runs = ap (λ v. v.runs) e ∙ whole_reported (deep_runs (take taken input) items range d) in
      let bytes : v.taken ≡ taken = ap (λ v. v.taken) e ∙ length-take-le taken input n in
      let same : items ≡ map run_record d.runs = sym d.spelling.message.items in
      rw (runs, bytes) (
        n,
        (
          record {
            runs = d.runs;
            spelling = subst (λ m. SpellsBy limits.profile d.runs m (take taken input)) same d.spelling;
            within = d.within;
            members = subst (AllByRecursion (IsMember set limits)) same d.members;
          },
          refl,
        ),
        ap (λ v. v.profile) e ∙ p,
      )

-- the records that are seen
pub some_seen : {bytes : List ℕ} {records : ℕ} (v : Viewed) (profile : Profile) → AreChecked bytes records
    → viewed_of bytes profile ≡ v → (length v.runs ≡ records) × (1 ≤ records) × (records ≤ 65535)
some_seen v profile m e =
    (ap (λ v. length v.runs) (sym e) ∙ ap length (whole_reported m.whole) ∙ sym m.records_are, m.some, m.few)

-- ---- the only view
pub one_view : OneMeaning → (set : Sets) (holds : Conditions) → OneView set holds
one_view meaning set holds limits input v items count r h d =
    let e = r.1.0 in
    let t = one_front meaning set limits input items (map run_record v.runs) count v.taken h r.0 d e in
    let runs : d.runs ≡ v.runs =
    sym (flat_reported limits.profile d.runs items (take count input) d.spelling) ∙ ap (λ n. runs_of (pieces_of (take n input))) t.1
    ∙ flat_reported limits.profile e.runs (map run_record v.runs) (take v.taken input) e.spelling ∙ r.1.1 in
    record { items_are = t.0; runs_are = runs; count_is = t.1 }

pub never_refused : (set : Sets) (holds : Conditions) → NoPrefixIsAccepted set → NeverRefusedInView set holds
never_refused set holds none limits input refusal count r d = none limits input refusal.at count r.place d
