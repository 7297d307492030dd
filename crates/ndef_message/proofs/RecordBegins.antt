-- The rest of a record before its first step, and after its last.
use Rattle.std.proofs.Common.{◌≡◌, ◌≢◌, ℕ, ◌+◌, ◌-◌, ◌*◌, ◌%◌, ◌<◌, ◌≤◌, ◌^◌, ◌==◌, ◌&&◌, Bool, true, false, List, [], ◌++◌, length, take, drop, refl, sym, ap, ap₂, ◌∙◌, inl, inr, arith, length-append, length-take, length-drop, append_assoc, take_all}
use Rattle.std.proofs.lemmas.Bool.{le-ltb, true≢false}
use Rattle.std.proofs.lemmas.List.{take-append-le, take-take}
use Rattle.std.proofs.lemmas.Nat.{mod-mul-add, mod_below}
use Rattle.std.proofs.Math.ListN.{drop_of_length-le}
use Rattle.std.specs.List.{flat_map}
use Rattle.std.specs.Prelude.{Option, None, Some, unwrap_or}
use Rattle.ndef_format.specs.Messages.{Item}
use Rattle.ndef_format.specs.Records.{octets, pieces}
use Rattle.ndef_message.specs.Cut.{cut_run}
use Rattle.ndef_message.specs.CutLaws.{below_or_not}
use Rattle.ndef_message.specs.Heads.{first_fields}
use Rattle.ndef_message.specs.Machine.Stepping.{IsWaiting}
use Rattle.ndef_message.specs.Steps.{AreLeft, AreNames, Begun, CanBeWritten, IsBegun, LeavesAll, LeavesNothing, WantsPayload, chunk_begin, chunk_front, chunk_length, chunk_size, front_length, is_last_chunk, is_over, later_octets, octets_left, planned_item, unstarted}
use Rattle.ndef_message.specs.Written.{written_piece}
use Rattle.ndef_message.specs.WrittenLaws.{first_head_is, first-step, whole_run}
use Rattle.ndef_message.specs.declared.form.Form.{Form}
use Rattle.ndef_message.specs.declared.heads.Standing.{Standing}
use Rattle.ndef_message.specs.declared.plan.Progress.{Progress}
use Rattle.ndef_message.specs.declared.plan.RecordPlan.{RecordPlan}
use Rattle.ndef_message.proofs.RecordSteps.{front_size, le_is, no_later, not_over, open_left, over, over_left, over_tells, some_size}

-- ---- before the first

zero_mod : (s : ℕ) → 1 ≤ s → 0 % s ≡ 0
zero_mod s some = let e : 0 ≡ 0 * s + 0 = omega arith in ap (λ x. x % s) e ∙ mod-mul-add 0 s 0 some

pub unstarted_is_open : (p : RecordPlan) → is_over p unstarted ≡ false
unstarted_is_open p = elim (below_or_not 0 p.payload_length) [
  | inl some ↦ not_over p unstarted (omega (arith, some))
  | inr none ↦ ap (λ b. b && 0 == p.payload_length) (le-ltb 0 p.payload_length none)
]

-- a size that no payload goes beyond is none
sized : (form : Form) (first last : Bool) (size : Option ℕ) (m : Item) → length m.payload < 2 ^ 32
    → flat_map (written_piece form) (pieces (cut_run first last (Some (unwrap_or size 4294967295)) m))
    ≡ flat_map (written_piece form) (pieces (cut_run first last size m))
sized form first last None m small = ap (λ r. flat_map (written_piece form) (pieces r)) (whole_run first last 4294967295 m (omega arith) small)
sized form first last (Some n) m small = refl

pub leaves_all : (p : RecordPlan) → CanBeWritten p → 1 ≤ chunk_size p → LeavesAll (record { plan = p; progress = unstarted })
leaves_all p can some kind id payload names long =
    let s = chunk_size p in
    let m = planned_item p kind id payload in
    let alone = is_last_chunk p 0 in
    let standing : Standing = record { first = p.first; last = p.last; alone = alone } in
    let part = take s payload in
    let rest = drop s payload in
    let zero = zero_mod s some in
    let n = length-take s payload in
    let d = length-drop s payload in
    let begin : 0 - 0 % s ≡ 0 = omega (arith, zero) in
    let full : s - 0 % s ≡ s = omega (arith, zero) in
    let size : chunk_length p 0 ≡ length part = omega (arith, n, long) in
    let fields : first_fields standing p.form p.tnf p.kind_length p.id_length (chunk_length p 0)
    ≡ first_fields standing p.form p.tnf (length kind) (length id) (length part) =
    ap₂ (λ k i. first_fields standing p.form p.tnf k i (chunk_length p 0)) (sym names.kind_length) (sym names.id_length)
    ∙ ap (first_fields standing p.form p.tnf (length kind) (length id)) size in
    let front = octets (first_fields standing p.form p.tnf p.kind_length p.id_length (chunk_length p 0)) in
    open_left p unstarted kind id payload (unstarted_is_open p)
    ∙ ap₂ (λ b k. chunk_front p b kind id ++ (take k payload ++ later_octets p (drop k payload))) begin full
    ∙ sym (append_assoc (front ++ (kind ++ id)) part (later_octets p rest))
    ∙ ap (λ l. l ++ later_octets p rest) (append_assoc front (kind ++ id) part ∙ ap (λ l. front ++ l) (append_assoc kind id part)
    ∙ first_head_is p.form standing m part p.tnf _ kind id fields refl refl refl)
    ∙ first-step p.form p.first p.last alone s m payload part rest some refl refl refl (le_is (p.payload_length - 0) s (length rest) (omega (arith, d, long)))
    ∙ sized p.form p.first p.last p.size m (let small = can.payload in omega (arith, long, small))

-- ---- where the front of a chunk is out

out_left : (p : RecordPlan) (at : Progress) (kind id rest : List ℕ) → AreNames p kind id → is_over p at ≡ false
    → at.head ≡ front_length p (chunk_begin p at.taken)
    → octets_left p at kind id rest
    ≡ take (chunk_size p - at.taken % chunk_size p) rest ++ later_octets p (drop (chunk_size p - at.taken % chunk_size p) rest)
out_left p at kind id rest names unfinished out =
    let size = front_size p (chunk_begin p at.taken) kind id names in
    let k = chunk_size p - at.taken % chunk_size p in
    open_left p at kind id rest unfinished
    ∙ ap (λ l. l ++ (take k rest ++ later_octets p (drop k rest))) (drop_of_length-le (chunk_front p (chunk_begin p at.taken) kind id) (omega (arith, size, out)))

no_rest : (rest : List ℕ) → length rest ≡ 0 → rest ≡ []
no_rest rest none = sym (take_all 0 rest (omega (arith, none)))

none_left : (p : RecordPlan) (k : ℕ) (rest : List ℕ) → 1 ≤ chunk_size p → length rest ≡ 0 → take k rest ++ later_octets p (drop k rest) ≡ []
none_left p k rest some none =
    let d = length-drop k rest in
    ap₂ (λ x y. x ++ y) (take_all k rest (omega (arith, none)) ∙ no_rest rest none) (no_later p (drop k rest) some (omega (arith, d, none)))

pub wants_payload : (p : RecordPlan) (at : Progress) → 1 ≤ chunk_size p → IsWaiting p at → WantsPayload p at
wants_payload p at some waits kind id rest names all = by_over (is_over p at) refl
  where
    k : ℕ
    k = chunk_size p - at.taken % chunk_size p

    some_rest : (r : List ℕ) → 1 ≤ chunk_size p - at.taken % chunk_size p → 0 < length r
        → take 1 (take (chunk_size p - at.taken % chunk_size p) r ++ later_octets p (drop (chunk_size p - at.taken % chunk_size p) r)) ≡ take 1 r
    some_rest r one more =
        let n = length-take (chunk_size p - at.taken % chunk_size p) r in
        take-append-le 1 (take (chunk_size p - at.taken % chunk_size p) r) (later_octets p (drop (chunk_size p - at.taken % chunk_size p) r)) (omega (arith, n, one, more))
        ∙ take-take 1 (chunk_size p - at.taken % chunk_size p) r one

    by_out : is_over p at ≡ false → at.head ≡ front_length p (chunk_begin p at.taken) → take 1 (octets_left p at kind id rest) ≡ take 1 rest
    by_out unfinished out =
        let below = mod_below at.taken (chunk_size p) some in
        ap (take 1) (out_left p at kind id rest names unfinished out) ∙ elim (below_or_not 0 (length rest)) [
          | inl more ↦ some_rest rest (omega (arith, below)) more
          | inr none ↦ ap (take 1) (none_left p (chunk_size p - at.taken % chunk_size p) rest some (omega (arith, none)) ∙ sym (no_rest rest (omega (arith, none))))
        ]

    by_over : (b : Bool) → is_over p at ≡ b → take 1 (octets_left p at kind id rest) ≡ take 1 rest
    by_over true e = let end = over_tells p at e in ap (take 1) (over_left p at kind id rest e ∙ sym (no_rest rest (omega (arith, end.1, all))))
    by_over false e = elim waits [
      | inl o ↦ absurd (true≢false (sym o ∙ e))
      | inr out ↦ by_out e out
    ]

-- ---- whether any is left

-- a payload with octets
pub some_whole : (b : Begun) (kind id rest : List ℕ) → IsBegun b → AreLeft b kind id rest → 0 < b.plan.payload_length
    → b.progress.taken ≡ b.plan.payload_length → LeavesNothing b kind id rest
some_whole b kind id rest is left some e = over_left b.plan b.progress kind id rest (over b.plan b.progress some e)

pub some_open : (b : Begun) (kind id rest : List ℕ) → IsBegun b → AreLeft b kind id rest
    → b.progress.taken ≢ b.plan.payload_length → ¬ LeavesNothing b kind id rest
some_open b kind id rest is left ne none =
    let p = b.plan in
    let k = chunk_size p - b.progress.taken % chunk_size p in
    let below = mod_below b.progress.taken (chunk_size p) (some_size p.size is.size) in
    let all = left.all in
    let most = is.is.taken in
    let front = drop b.progress.head (chunk_front p (chunk_begin p b.progress.taken) kind id) in
    let e = ap length (sym (open_left p b.progress kind id rest (not_over p b.progress ne)) ∙ none) in
    let n = length-append front (take k rest ++ later_octets p (drop k rest)) in
    let m = length-append (take k rest) (later_octets p (drop k rest)) in
    let t = length-take k rest in
    absurd (omega (arith, e, n, m, t, all, below, ne, most))

-- a payload without
pub empty_whole : (b : Begun) (kind id rest : List ℕ) → IsBegun b → AreLeft b kind id rest → b.plan.payload_length ≡ 0
    → b.progress.head ≡ front_length b.plan 0 → LeavesNothing b kind id rest
empty_whole b kind id rest is left empty out =
    let p = b.plan in
    let most = is.is.taken in
    let all = left.all in
    let taken : b.progress.taken ≡ 0 = omega (arith, most, empty) in
    let unfinished : is_over p b.progress ≡ false = ap (λ c. c && b.progress.taken == p.payload_length) (le-ltb 0 p.payload_length (omega (arith, empty))) in
    let begin : chunk_begin p b.progress.taken ≡ 0 = omega (arith, taken) in
    out_left p b.progress kind id rest left.names unfinished (out ∙ ap (front_length p) (sym begin))
    ∙ none_left p (chunk_size p - b.progress.taken % chunk_size p) rest (some_size p.size is.size) (omega (arith, all, empty))

pub empty_open : (b : Begun) (kind id rest : List ℕ) → IsBegun b → AreLeft b kind id rest → b.plan.payload_length ≡ 0
    → b.progress.head ≢ front_length b.plan 0 → ¬ LeavesNothing b kind id rest
empty_open b kind id rest is left empty ne none =
    let p = b.plan in
    let most = is.is.taken in
    let taken : b.progress.taken ≡ 0 = omega (arith, most, empty) in
    let unfinished : is_over p b.progress ≡ false = ap (λ c. c && b.progress.taken == p.payload_length) (le-ltb 0 p.payload_length (omega (arith, empty))) in
    let begin : chunk_begin p b.progress.taken ≡ 0 = omega (arith, taken) in
    let k = chunk_size p - b.progress.taken % chunk_size p in
    let front = chunk_front p (chunk_begin p b.progress.taken) kind id in
    let e = ap length (sym (open_left p b.progress kind id rest unfinished) ∙ none) in
    let n = length-append (drop b.progress.head front) (take k rest ++ later_octets p (drop k rest)) in
    let d = length-drop b.progress.head front in
    let size = front_size p (chunk_begin p b.progress.taken) kind id left.names in
    let same = ap (front_length p) begin in
    let few = is.is.most in
    absurd (omega (arith, e, n, d, size, same, few, ne))
