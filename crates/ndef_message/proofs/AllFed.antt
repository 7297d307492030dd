-- The answers of a checker to all the bytes that it was fed.
use Rattle.std.proofs.Common.{◌≡◌, ℕ, ◌+◌, ◌-◌, ◌<◌, ◌≤◌, ◌⊎◌, inl, inr, refl, sym, ◌∙◌, ap, subst, arith, List, [], ◌++◌, length, take, length-append}
use Rattle.std.specs.Prelude.{Result, Ok, Err, ⊤}
use Rattle.std.proofs.lemmas.Bool.{cases_lt}
use Rattle.std.proofs.lemmas.List.{append-nil, length-map, length-take-le, take_all, take_at, take-append-le, take-take}
use Rattle.std.proofs.Math.Seq.{take-append-add, take-append_seam}
use Rattle.ndef_format.specs.Messages.{Item, run_record}
use Rattle.ndef_format.specs.Limits.{LimitValues, AreInRange}
use Rattle.ndef_format.specs.Laws.{OneMeaning}
use Rattle.ndef_format.specs.Reasons.{Conditions}
use Rattle.ndef_format.specs.declared.refusal.Refusal.{Refusal}
use Rattle.ndef_format.specs.Payloads.{Sets}
use Rattle.ndef_format.specs.Positions.{IsAt}
use Rattle.ndef_format.specs.Accepted.{Accepted, IsAccepted, IsViable}
use Rattle.ndef_format.specs.Refusals.{IsPlace, Refuses}
use Rattle.ndef_lang.specs.declared.record_language.RecordLanguage.{Ghosts}
use Rattle.ndef_piece.specs.Field.{OneField}
use Rattle.ndef_message.specs.Feed.{Tells, TellsEnd, IsLongestViable, CountsRecords, CountsMessage, Ends, OneCount, MessagesAreLongest}
use Rattle.ndef_message.specs.Opened.{IsTaken, HasLed}
use Rattle.ndef_message.specs.Machine.Checkers.{CheckerReached}
use Rattle.ndef_message.specs.Machine.Format.{FormatLaws}
use Rattle.ndef_message.specs.Machine.Fronts.{Fronts, IsReachable, Feeds, ForEachInput, SomeLed}
use Rattle.ndef_message.specs.Machine.Points.{Point}
use Rattle.ndef_message.specs.Machine.State.{Reached}
use Rattle.ndef_message.specs.Machine.Taken.{HaveCome, WasFed}
use Rattle.ndef_message.specs.declared.checker.Checker.{Checker}
use Rattle.ndef_message.specs.declared.fed.Fed.{Fed}
use Rattle.ndef_message.specs.declared.fed.Fed.TheVariants as fed
use Rattle.ndef_message.proofs.Ended.{deep_given, refuses}
use Rattle.ndef_message.proofs.Led.{checker_led}
use Rattle.ndef_message.proofs.Places.{no_prefix_is_deep, order, refused_alike, viable_shorter}
use Rattle.ndef_message.proofs.Rests.{deep_viable, viable_front}
use Rattle.ndef_message.proofs.Reported.{one_length}

-- a list of which a front is viable
viable_part : (set : Sets) (limits : LimitValues) (a b : List ℕ) (n : ℕ) → length a ≤ n → IsViable set limits (take n (a ++ b)) → IsViable set limits a
viable_part set limits a b n h v =
    let k : length a + (n - length a) ≡ n = omega arith in
    let e : take n (a ++ b) ≡ a ++ take (n - length a) b = ap (λ m. take m (a ++ b)) (sym k) ∙ take-append-add a b (n - length a) in
    viable_front set limits a (take (n - length a) b) (subst (IsViable set limits) e v)

-- bytes after a message complete none
none_after : OneMeaning → (set : Sets) (limits : LimitValues) (bytes : List ℕ) (m n : ℕ) → m < n → n ≤ length bytes → IsAccepted set limits (take m bytes) → IsViable set limits (take n bytes) → ⊥
none_after meaning set limits bytes m n h within a v =
    let e = length-take-le m (take n bytes ++ v.0) (omega (arith, length-append (take n bytes) v.0, length-take-le n bytes within)) in
    let same : take m (take n bytes ++ v.0) ≡ take m bytes = take-append-le m (take n bytes) v.0 (omega (arith, length-take-le n bytes within)) ∙ take-take m n bytes (omega arith) in
    let k : m ≡ n + length v.0 =
    one_length meaning set limits (take n bytes ++ v.0) m (n + length v.0) (omega (arith, length-append (take n bytes) v.0, length-take-le n bytes within)) (omega (arith, length-append (take n bytes) v.0, length-take-le n bytes within))
    (subst (IsAccepted set limits) (sym same) a)
    (subst (IsAccepted set limits) (sym (take_all (n + length v.0) (take n bytes ++ v.0) (omega (arith, length-append (take n bytes) v.0, length-take-le n bytes within)))) v.1) in
    omega (arith, k)

-- ---- what is answered to more bytes

module _ (meaning : OneMeaning) {Point : Type 0} {set : Sets} (holds : Conditions) {limits : LimitValues} {old : Fronts Point} (new : Fronts Point) {front : List ℕ} (bytes : List ℕ) (g : HaveCome set limits old front) where
  abbrev led : List ℕ
  led = take g.count front

  abbrev all : List ℕ
  all = front ++ bytes

  abbrev Reported : Fed → Type 0
  Reported answer = HaveCome set limits new all × Tells set holds limits all (length front) answer

  long : length all ≡ length front + length bytes
  long = length-append front bytes

  counted : length led ≡ g.count
  counted = length-take-le g.count front g.within

  no_message : (place : ℕ) → IsPlace set limits (led ++ bytes) place → ¬ IsAccepted set limits led
  no_message place p d = no_prefix_is_deep meaning set limits (led ++ bytes) place (length led) p (subst (IsAccepted set limits) (sym (take_at led bytes (length led) refl)) d)

  -- more bytes are needed
  reported_more : IsViable set limits (led ++ bytes) → ¬ IsAccepted set limits (led ++ bytes) → IsReachable new (led ++ bytes) → Reported fed.More
  reported_more v u l =
      let there : IsPlace set limits (led ++ bytes) (length (led ++ bytes)) =
      let e = take_all (length (led ++ bytes)) (led ++ bytes) (omega arith) in
      record { within = omega arith; viable = rw e v; unended = rw e u; stops = λ h. absurd (omega arith) } in
      let whole : g.count ≡ length front =
      elim g.settled as (λ _. g.count ≡ length front) [
        | inl e ↦ e
        | inr s ↦ elim s as (λ _. g.count ≡ length front) [
          | inl d ↦ absurd (no_message (length (led ++ bytes)) there d)
          | inr n ↦ absurd (n (viable_front set limits led bytes v))
        ]
      ] in
      let same : led ++ bytes ≡ all = ap (λ x. x ++ bytes) (take_all g.count front (omega arith)) in
      let e = take_all (length all) all (omega arith) in (
        record { count = length all; within = omega arith; led = subst (IsReachable new) (same ∙ sym e) l; settled = inl refl },
        (subst (IsViable set limits) same v, subst (λ x. ¬ IsAccepted set limits x) same u),
      )

  -- the number of all the bytes that belong to the message
  ended : (taken : ℕ) → taken ≤ length bytes → IsAccepted set limits (led ++ take taken bytes)
      → (n : ℕ) × (n ≤ length all) × (take n all ≡ led ++ take taken bytes) × (taken ≡ n - length front)
  ended taken h d =
      elim g.settled as (λ _. (n : ℕ) × (n ≤ length all) × (take n all ≡ led ++ take taken bytes) × (taken ≡ n - length front)) [
        | inl e ↦ (
          length front + taken,
          omega (arith, long, h),
          take-append-add front bytes taken ∙ ap (λ x. x ++ take taken bytes) (sym (take_all g.count front (omega arith))),
          omega arith,
        )
        | inr s ↦ elim s as (λ _. (n : ℕ) × (n ≤ length all) × (take n all ≡ led ++ take taken bytes) × (taken ≡ n - length front)) [
          | inl m ↦
              let whole = length-append led bytes in
              let k : length led ≡ length led + taken =
              one_length meaning set limits (led ++ bytes) (length led) (length led + taken) (omega (arith, whole)) (omega (arith, whole, h))
              (subst (IsAccepted set limits) (sym (take_at led bytes (length led) refl)) m)
              (subst (IsAccepted set limits) (sym (take-append-add led bytes taken)) d) in
              let z : taken ≡ 0 = omega (arith, k) in
              let w = g.within in (
                g.count,
                omega (arith, long, w),
                take-append-le g.count front bytes g.within ∙ sym (append-nil led) ∙ ap (λ t. led ++ take t bytes) (sym z),
                omega (arith, w, z),
              )
          | inr n ↦ absurd (n (viable_front set limits led (take taken bytes) (deep_viable set limits (led ++ take taken bytes) d)))
        ]
      ]

  -- they have a message at their front
  reported_done : (taken : ℕ) → taken ≤ length bytes → IsAccepted set limits (led ++ take taken bytes) → IsReachable new (led ++ take taken bytes) → Reported (fed.Done taken)
  reported_done taken h d l =
      let t = ended taken h d in
      let d' = subst (IsAccepted set limits) (sym t.2) d in (
        record { count = t.0; within = t.1; led = subst (IsReachable new) (sym t.2) l; settled = inr (inl d') },
        (t.0, (t.1, d'), t.3),
      )

  -- up to the refused byte they are the same
  alike : (refusal : Refusal) → refusal.at < length (led ++ bytes) → Refuses set holds limits (led ++ bytes) refusal
      → (refusal.at < length all) × (take (refusal.at + 1) (led ++ bytes) ≡ take (refusal.at + 1) all)
  alike refusal h r =
      let at = refusal.at in
      let w = g.within in
      let both = length-append led bytes in
      elim g.settled as (λ _. (at < length all) × (take (at + 1) (led ++ bytes) ≡ take (at + 1) all)) [
        | inl e ↦ (omega (arith, h, both, counted, long, e), ap (λ x. take (at + 1) (x ++ bytes)) (take_all g.count front (omega arith)))
        | inr s ↦ elim s as (λ _. (at < length all) × (take (at + 1) (led ++ bytes) ≡ take (at + 1) all)) [
          | inl d ↦ absurd (no_message at r.place d)
          | inr n ↦ elim (cases_lt at (length led)) as (λ _. (at < length all) × (take (at + 1) (led ++ bytes) ≡ take (at + 1) all)) [
            | inl k ↦ (
              omega (arith, k, counted, w, long),
              take-append-le (at + 1) led bytes (omega (arith, k)) ∙ take-take (at + 1) g.count front (omega (arith, k, counted))
                  ∙ sym (take-append-le (at + 1) front bytes (omega (arith, k, counted, w))),
            )
            | inr k ↦ absurd (n (viable_part set limits led bytes at k r.place.viable))
          ]
        ]
      ]

  -- one of them is refused
  reported_refused : (refusal : Refusal) → refusal.at < length (led ++ bytes) → Refuses set holds limits (led ++ bytes) refusal
      → IsReachable new (take (refusal.at + 1) (led ++ bytes)) → Reported (fed.Refused refusal)
  reported_refused refusal h r l =
      let a = alike refusal h r in
      let refused : Refuses set holds limits all refusal = refused_alike set holds limits (led ++ bytes) all refusal h a.0 a.1 r in
      let within = a.0 in (
        record {
          count = refusal.at + 1;
          within = omega (arith, within);
          led = subst (IsReachable new) a.1 l;
          settled = inr (inr (refused.place.stops a.0));
        },
        (a.0, refused),
      )

  pub reported : (answer : Fed) → Feeds set holds limits new led bytes answer → Reported answer
  reported fed.More f = reported_more f.0 f.1 f.2
  reported (fed.Done taken) f = reported_done taken f.0 f.1 f.2
  reported (fed.Refused refusal) f = reported_refused refusal f.0 f.1 f.2

-- what a checker answers, and that it was fed them
pub checker_reported : OneMeaning → {L : Type 0} {language : Ghosts L} (old new : Checker L language) (bytes : List ℕ) (answer : Fed) → new.limits ≡ old.limits
    → ForEachInput (CheckerReached old) (λ front given point. Feeds language.payloads language.reasons old.limits (CheckerReached new) front bytes answer)
    → (limits : LimitValues) (front : List ℕ) → WasFed old limits front
    → WasFed new limits (front ++ bytes) × Tells language.payloads language.reasons limits (front ++ bytes) (length front) answer
checker_reported meaning {language = language} old new bytes answer same feeds limits front h =
    let g = h.1 in
    let f = subst (λ l. Feeds language.payloads language.reasons l (CheckerReached new) (take g.count front) bytes answer) h.0 (feeds (take g.count front) g.led.0 g.led.1 g.led.2) in
    let x = reported meaning language.reasons (CheckerReached new) bytes g answer f in
    ((same ∙ h.0, x.0), x.1)

-- before the first byte
pub none_fed : {L : Type 0} {language : Ghosts L} (c : Checker L language) (limits : LimitValues) → c.limits ≡ limits → (point : Point) → CheckerReached c [] [] point → WasFed c limits []
none_fed c limits same point k = (same, record { count = 0; within = omega arith; led = ([], point, k); settled = inl refl })

-- some bytes were fed
pub some_fed : {L : Type 0} {language : Ghosts L} (c : Checker L language) → SomeLed (CheckerReached c) → (limits : LimitValues) × (bytes : List ℕ) × WasFed c limits bytes
some_fed c w =
    let e = take_all (length w.0) w.0 (omega arith) in
    (c.limits, w.0, (refl, record { count = length w.0; within = omega arith; led = (w.1, w.2, subst (λ x. CheckerReached c x w.1 w.2) (sym e) w.3); settled = inl refl }))

-- ---- what is answered of them

module _ {Point : Type 0} {set : Sets} {limits : LimitValues} {reached : Fronts Point} {bytes : List ℕ} (g : HaveCome set limits reached bytes) where
  come : length (take g.count bytes) ≡ g.count
  come = length-take-le g.count bytes g.within

  -- .. where the input ends
  pub reported_end : (holds : Conditions) (result : Result ⊤ Refusal) → Ends set holds limits (take g.count bytes) result → TellsEnd set holds limits bytes result
  reported_end holds (Ok done) d = (g.count, (g.within, d))
  reported_end holds (Err refusal) r = by_place (order refusal.at g.count)
    where
      by_place : (refusal.at < g.count) ⊎ (g.count ≤ refusal.at) → Refuses set holds limits bytes refusal
      by_place (inl h) =
          refused_alike set holds limits (take g.count bytes) bytes refusal (omega (arith, come)) (let w = g.within in omega (arith, h, w)) (take-take (refusal.at + 1) g.count bytes (omega arith)) r
      by_place (inr h) =
          let w = r.place.within in
          let all : take refusal.at (take g.count bytes) ≡ take g.count bytes = take_all refusal.at (take g.count bytes) (omega (arith, come)) in
          elim g.settled as (λ _. Refuses set holds limits bytes refusal) [
            | inl e ↦ subst (λ x. Refuses set holds limits x refusal) (take_all g.count bytes (omega arith)) r
            | inr s ↦ elim s as (λ _. Refuses set holds limits bytes refusal) [
              | inl d ↦ absurd (r.place.unended (subst (IsAccepted set limits) (sym all) d))
              | inr n ↦ absurd (n (subst (IsViable set limits) all r.place.viable))
            ]
          ]

  -- .. of the most of them that can be completed
  pub reported_longest : OneMeaning → (count : ℕ) → IsLongestViable set limits (take g.count bytes) count → IsLongestViable set limits bytes count
  reported_longest meaning count a =
      let w = a.within in
      let v = g.within in
      let viable : IsViable set limits (take count bytes) = subst (IsViable set limits) (take-take count g.count bytes (omega (arith, come))) a.viable in
      record { within = omega (arith, come); viable = viable; most = λ h. by_count viable h (order count g.count) }
    where
      by_count : IsViable set limits (take count bytes) → count < length bytes → (count < g.count) ⊎ (g.count ≤ count) → ¬ IsViable set limits (take (count + 1) bytes)
      by_count viable h (inl k) = λ v. a.most (omega (arith, come)) (subst (IsViable set limits) (sym (take-take (count + 1) g.count bytes (omega arith))) v)
      by_count viable h (inr k) =
          let w = a.within in
          let same : count ≡ g.count = omega (arith, come) in
          elim g.settled as (λ _. ¬ IsViable set limits (take (count + 1) bytes)) [
            | inl e ↦ absurd (omega (arith, same))
            | inr s ↦ elim s as (λ _. ¬ IsViable set limits (take (count + 1) bytes)) [
              | inl d ↦ λ v. none_after meaning set limits bytes g.count (count + 1) (omega (arith, same)) (omega (arith, h)) d v
              | inr n ↦ absurd (n (subst (λ m. IsViable set limits (take m bytes)) same viable))
            ]
          ]

-- ---- the records

-- the bytes taken of a front are the most that can be completed
longest_taken : (set : Sets) (limits : LimitValues) (front taken : List ℕ) → IsTaken set limits front taken → IsLongestViable set limits front (length taken)
longest_taken set limits front taken t =
    let n = ap length t.split ∙ length-append taken t.refused in
    let one = t.one in
    let e : take (length taken) front ≡ taken = ap (take (length taken)) t.split ∙ take-append_seam taken t.refused in
    record {
      within = omega (arith, n);
      viable = subst (IsViable set limits) (sym e) t.viable;
      most = λ h v. t.stops (omega (arith, n)) (subst (IsViable set limits) (take_all (length taken + 1) front (omega (arith, n))) v);
    }

-- that number of records ends
pub reported_records : (laws : FormatLaws) {L : Type 0} {language : Ghosts L} (c : Checker L language) (records : ℕ) → ForEachInput (CheckerReached c) (λ front given point. records ≡ length given)
    → (limits : LimitValues) (bytes : List ℕ) → WasFed c limits bytes → CountsRecords language.payloads limits bytes records
reported_records laws {language = language} c records counts limits bytes h =
    let g = h.1 in
    let front = take g.count bytes in
    let k : HasLed language.payloads limits front g.led.0 = subst (λ l. HasLed language.payloads l front g.led.0) h.0 (checker_led laws.counted c front g.led.0 g.led.1 g.led.2) in
    let longest = longest_taken language.payloads limits front k.taken k.accepted in
    let n = longest.within in
    let e : take (length k.taken) bytes ≡ k.taken =
    sym (take-take (length k.taken) g.count bytes (omega (arith, length-take-le g.count bytes g.within))) ∙ ap (take (length k.taken)) k.accepted.split ∙ take-append_seam k.taken k.accepted.refused in
    record {
      place = length k.taken;
      longest = reported_longest g laws.meaning (length k.taken) longest;
      runs = k.runs;
      begun = k.begun;
      field = k.field;
      at = subst (λ x. IsAt limits x k.runs k.begun k.field) (sym e) k.at;
      count = counts front g.led.0 g.led.1 g.led.2 ∙ ap length k.means ∙ length-map k.runs run_record;
    }

-- `records` is the number of records of a message at the front
module _ (laws : FormatLaws) {L : Type 0} {language : Ghosts L} (c : Checker L language) (range : AreInRange c.limits) (records : ℕ) (counts : ForEachInput (CheckerReached c) (λ front given point. records ≡ length given)) where
  -- .. where the bytes led there
  whole_led : (front : List ℕ) (given : List Item) (point : Point) → CheckerReached c front given point → (items : List Item) (count : ℕ) → count ≤ length front → Accepted language.payloads c.limits items (take count front)
      → records ≡ length items
  whole_led front given point k items count h d = by_side k.1
    where
      set : Sets
      set = language.payloads

      by_side : Reached language c.limits c.state front given point → records ≡ length items
      by_side (inl s) = by_count (order count (length front))
        where
          by_count : (count < length front) ⊎ (length front ≤ count) → records ≡ length items
          by_count (inl less) = absurd (none_after laws.meaning set c.limits front count (length front) less (omega arith) (items, d) (subst (IsViable set c.limits) (sym (take_all (length front) front (omega arith))) s.viable))
          by_count (inr enough) =
              let e = take_all count front enough in
              let own = subst (Accepted set c.limits items) e d in
              let x = deep_given laws language c.limits range c.state front given point (items, own) k.1 in
              let m = laws.meaning c.limits.profile c.limits.profile given items front front [] (x.runs, x.spelling) (own.runs, own.spelling) (sym (append-nil front)) in
              counts front given point k ∙ ap length m.0
      by_side (inr s) =
          let r = refuses laws range front [] given point s in
          absurd (no_prefix_is_deep laws.meaning set c.limits front s.refusal.at count (subst (λ x. Refuses set language.reasons c.limits x s.refusal) (append-nil front) r.1).place (items, d))

  pub reported_message : (limits : LimitValues) (bytes : List ℕ) → WasFed c limits bytes → CountsMessage language.payloads limits bytes records
  reported_message limits bytes h items count within d =
      let g = h.1 in
      let own = subst (λ l. Accepted language.payloads l items (take count bytes)) (sym h.0) d in
      by_count own (order g.count count)
    where
      by_count : Accepted language.payloads c.limits items (take count bytes) → (h.1.count < count) ⊎ (count ≤ h.1.count) → records ≡ length items
      by_count own (inr k) =
          let g = h.1 in
          whole_led (take g.count bytes) g.led.0 g.led.1 g.led.2 items count (omega (arith, length-take-le g.count bytes g.within)) (subst (Accepted language.payloads c.limits items) (sym (take-take count g.count bytes k)) own)
      by_count own (inl k) =
          let g = h.1 in
          elim g.settled as (λ _. records ≡ length items) [
            | inl e ↦ absurd (omega (arith, e))
            | inr s ↦ elim s as (λ _. records ≡ length items) [
              | inl a ↦ absurd (let e = one_length laws.meaning language.payloads limits bytes g.count count g.within within a (items, d) in omega (arith, e))
              | inr n ↦ absurd (n (viable_shorter language.payloads limits g.count count bytes (omega arith) (deep_viable language.payloads limits (take count bytes) (items, d))))
            ]
          ]

-- ---- the bytes determine them

one_longest : (set : Sets) (limits : LimitValues) (bytes : List ℕ) (m n : ℕ) → IsLongestViable set limits bytes m → IsLongestViable set limits bytes n → m < n → ⊥
one_longest set limits bytes m n a b h =
    let w = b.within in
    a.most (omega arith) (viable_shorter set limits (m + 1) n bytes (omega arith) b.viable)

pub one_count : OneField → (set : Sets) → OneCount set
one_count fields set limits bytes records other a b =
    let e = fields limits (take a.place bytes) a.runs b.runs a.begun b.begun a.field b.field a.at (subst (λ n. IsAt limits (take n bytes) b.runs b.begun b.field) (sym same) b.at) in
    a.count ∙ ap length e.0 ∙ sym b.count
  where
    same : a.place ≡ b.place
    same =
        elim (order a.place b.place) as (λ v. a.place ≡ b.place) [
          | inl h ↦ absurd (one_longest set limits bytes a.place b.place a.longest b.longest h)
          | inr h ↦ elim (order b.place a.place) as (λ v. a.place ≡ b.place) [
            | inl g ↦ absurd (one_longest set limits bytes b.place a.place b.longest a.longest g)
            | inr g ↦ omega arith
          ]
        ]

pub messages_longest : OneMeaning → (set : Sets) → MessagesAreLongest set
messages_longest meaning set limits bytes count place h a =
    elim (order place count) as (λ v. place ≡ count) [
      | inl k ↦ absurd (let w = h.0 in a.most (omega arith) (viable_shorter set limits (place + 1) count bytes (omega arith) (deep_viable set limits (take count bytes) h.1)))
      | inr k ↦ elim (order count place) as (λ v. place ≡ count) [
        | inl less ↦ absurd (none_after meaning set limits bytes count place less a.within h.1 a.viable)
        | inr more ↦ omega arith
      ]
    ]
