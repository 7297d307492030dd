-- A record that is written in steps, by the numbers of its writer.
use Rattle.std.proofs.Common.{◌≡◌, ◌≢◌, ℕ, ◌+◌, ◌⊎◌, ◌≤◌, inl, inr, List, [], ◌∷◌, ◌++◌, ◌-◌, append-nil, length, take, drop, replicate, rules, sym, ap₂, ap, ◌∙◌, subst, arith, length-append, length-take}
use Rattle.std.proofs.lemmas.Bool.{true≢false}
use Rattle.std.proofs.lemmas.Bool.Decides.{eqb_tells}
use Rattle.std.proofs.lemmas.List.{length-replicate}
use Rattle.std.specs.List.{flat_map}
use Rattle.std.specs.Option.{ForSome}
use Rattle.std.specs.Prelude.{IfSome, None, Option, Some, is_some, true}
use Rattle.ndef_format.specs.Records.{HasShape}
use Rattle.ndef_format.specs.declared.tnf.Tnf.{Tnf}
use Rattle.ndef_message.specs.CutLaws.{below_or_not}
use Rattle.ndef_message.specs.Steps.{AreCalls, AreNames, Begun, Call, Continues, Given, LeavesAll, LeavesNothing, StepsAreExact, WritesNext, octets_left, unstarted}
use Rattle.ndef_message.specs.declared.plan.Progress.{Progress}
use Rattle.ndef_message.specs.declared.plan.RecordPlan.{RecordPlan}
use Rattle.ndef_c.specs.Writers.{AreWriterCalls, BeginsAsWritten, HaveLengths, Lengths, MayBegin, WritersWriteRecords, asked_plan, begun_of, unwritten}
use Rattle.ndef_c.specs.Writes.{MayBeWritten, asked, size_of}
use Rattle.ndef_c.specs.declared.writer.NdefWriter.{NdefWriter}
use Rattle.ndef_c.specs.declared.writing.NdefWriting.{NdefWriting}

-- ---- before the first step

shape_of : (t : Tnf) (k l i j n m : ℕ) → k ≡ l → i ≡ j → n ≡ m → HasShape t k i n → HasShape t l j m
shape_of t k l i j n m e f g h = subst (λ x. HasShape t l j x) g (subst (λ x. HasShape t l x n) f (subst (λ x. HasShape t x i n) e h))

may : (how : NdefWriting) (lengths : Lengths) (kind id payload : List ℕ) → HaveLengths lengths kind id payload
    → MayBegin how lengths → MayBeWritten how (asked how kind id payload)
may how lengths kind id payload h m =
    let c = m.can in
    let k = h.kind_length in
    let i = h.id_length in
    let n = h.payload_length in
    let c1 = c.kind in
    let c2 = c.id in
    let c3 = c.payload in
    record {
      flags = m.flags;
      tnf = m.tnf;
      shaped = record { changed = c.changed; shape = shape_of _ _ _ _ _ _ _ (sym k) (sym i) (sym n) c.shape };
      lengths = record { kind = omega (arith, k, c1); id = omega (arith, i, c2); payload = omega (arith, n, c3) };
    }

must : (how : NdefWriting) (lengths : Lengths) (kind id payload : List ℕ) → HaveLengths lengths kind id payload
    → MayBeWritten how (asked how kind id payload) → MayBegin how lengths
must how lengths kind id payload h m =
    let k = h.kind_length in
    let i = h.id_length in
    let n = h.payload_length in
    let c1 = m.lengths.kind in
    let c2 = m.lengths.id in
    let c3 = m.lengths.payload in
    record {
      flags = m.flags;
      tnf = m.tnf;
      can = record {
        changed = m.shaped.changed;
        shape = shape_of _ _ _ _ _ _ _ k i n m.shaped.shape;
        kind = omega (arith, k, c1);
        id = omega (arith, i, c2);
        payload = omega (arith, n, c3);
      };
    }

pub begins_as_written : (how : NdefWriting) (lengths : Lengths)
    → (MayBegin how lengths → LeavesAll (record { plan = asked_plan how lengths; progress = unstarted })) → BeginsAsWritten how lengths
begins_as_written how lengths leaves = record {
  may = may how lengths;
  must = must how lengths;
  octets = λ kind id payload h m. leaves m kind id payload (record { kind_length = h.kind_length; id_length = h.id_length }) h.payload_length;
}

-- ---- what a call is given

same_or_not : (a b : ℕ) → (a ≡ b) ⊎ (a ≢ b)
same_or_not a b = elim (eqb_tells a b) [ inl e ↦ inl e.1 | inr n ↦ inr n.1 ]

pub continues_or_not : (b : Begun) (given : Given) → Continues b given ⊎ (¬ Continues b given)
continues_or_not b given =
    elim (same_or_not (length given.kind) b.plan.kind_length) [
      | inr n ↦ inr (λ c. n c.names.kind_length)
      | inl k ↦ elim (same_or_not (length given.id) b.plan.id_length) [
        | inr n ↦ inr (λ c. n c.names.id_length)
        | inl i ↦ elim (below_or_not b.plan.payload_length (b.progress.taken + length given.part)) [
          | inl n ↦ inr (λ c. let t = c.there in absurd (omega (arith, n, t)))
          | inr t ↦ inl (record { names = record { kind_length = k; id_length = i }; there = t })
        ]
      ]
    ]

pub continues : (b : Begun) (given : Given) → ¬ ¬ Continues b given → Continues b given
continues b given h = elim (continues_or_not b given) [ inl c ↦ c | inr n ↦ absurd (h n) ]

-- ---- a whole record

-- the part, and any octets after it that make up what is left
pub left_after : (b : Begun) (given : Given) → Continues b given
    → (more : List ℕ) × (b.progress.taken + length (given.part ++ more) ≡ b.plan.payload_length)
left_after b given c =
    let n = b.plan.payload_length - (b.progress.taken + length given.part) in
    let there = c.there in
    let long = length-append given.part (replicate n 0) in
    let zeros : List ℕ = replicate n 0 in
    let size : length zeros ≡ n = length-replicate n 0 in
    (replicate n 0, omega (arith, there, long, size))

pub nothing_written : {old new : Begun} {given : Given} {before after : List ℕ} {count : ℕ} (more : List ℕ)
    → WritesNext old given before after count new → length after ≡ length before
    → old.progress.taken + length (given.part ++ more) ≡ old.plan.payload_length
    → LeavesNothing old given.kind given.id (given.part ++ more) → after ≡ before
nothing_written {old} {new} {given} {before} {after} {count} more w same all none =
    let text = take count after in
    let rest = octets_left old.plan new.progress given.kind given.id (drop (new.progress.taken - old.progress.taken) (given.part ++ more)) in
    let e = ap length (sym none ∙ w.octets.octets more all) in
    let n = length-append text rest in
    let t = length-take count after in
    let within = w.within in
    let zero : count ≡ 0 = omega (arith, e, n, t, within, same) in
    sym (ap (λ k. drop k after) zero) ∙ w.kept ∙ ap (λ k. drop k before) zero

-- ---- what an encoder promises

pub leaves_all : {p q : RecordPlan} (r : Option Begun) → is_some r ≡ true → q ≡ p
    → IfSome r (λ e. e ≡ record { plan = q; progress = unstarted }) → IfSome r (λ e. LeavesAll e)
    → LeavesAll (record { plan = p; progress = unstarted })
leaves_all None h e value all = absurd (true≢false (sym h))
leaves_all (Some b) h e value all = subst (λ p. LeavesAll (record { plan = p; progress = unstarted })) e (subst LeavesAll value all)

pub moved_to : (new : Begun) (p : RecordPlan) (q r : Progress) → new.plan ≡ p → q ≡ new.progress → q ≡ r
    → new ≡ record { plan = p; progress = r }
moved_to new p q r e f g = ap₂ (λ x y. record { plan = x; progress = y }) e (sym f ∙ g)

-- ---- calls one after another

steps_of : (kind id payload : List ℕ) (calls : List Call) (old new : NdefWriter) → AreWriterCalls kind id payload old calls new
    → AreCalls kind id payload (begun_of old) calls (begun_of new)
steps_of kind id payload [] old new are = ap begun_of are
steps_of kind id payload (c ∷ cs) old new (more, mid, front, moves, next) =
    (more, begun_of mid, front, moves.writes, steps_of kind id payload cs mid new next)

some_size : (how : NdefWriting) → ForSome (size_of how) (λ n. 1 ≤ n)
some_size how = search rules

pub writers_write : StepsAreExact → WritersWriteRecords
writers_write steps how lengths kind id payload calls last have begins are nothing =
    let names : AreNames (asked_plan how lengths) kind id = record { kind_length = have.kind_length; id_length = have.id_length } in
    let written = flat_map (λ c. take c.count c.after) calls in
    let all = steps (asked_plan how lengths) kind id payload calls (begun_of last) begins.can (some_size how) names have.payload_length
    (steps_of kind id payload calls (unwritten how lengths) last are) in
    sym (append-nil written) ∙ ap (λ rest. written ++ rest) (sym nothing) ∙ all
