use Rattle.std.proofs.Common.{◌≡◌, ◌≤◌, ◌+◌, ◌-◌, min, length, take, take_all, drop, subst, ap₂, sym, ◌∙◌, inl, inr, arith, length-drop, length-take}
use Rattle.std.proofs.lemmas.List.{take-take}
use Rattle.std.proofs.lemmas.Nat.{mod_below}
use Rattle.std.proofs.Math.Nat.{mod-le}
use Rattle.ndef_message.specs.CutLaws.{below_or_not}
use Rattle.ndef_message.specs.Machine.Stepping.{PutsAt, advanced}
use Rattle.ndef_message.specs.Steps.{IsProgress, Steps, chunk_begin, chunk_front, chunk_size}
use Rattle.ndef_message.proofs.Putting.{puts_on}
use Rattle.ndef_message.proofs.RecordSteps.{ReadStep, chunk_end, front_size, gone, progress_on, some_size, turn_on}
use Rattle.ndef_message.proofs.stepping.step.Goals as goal

of_front : (c : goal.After-advanced) → let a = c.args in
    c.put_chunk_front-of_front.result ≡ min (length (drop a.progress.head (chunk_front a.plan.now (chunk_begin a.plan.now a.progress.taken) a.kind.now a.id.now))) (length a.buffer.now - a.at)
of_front c =
    let a = c.args in
    subst (λ b. c.put_chunk_front-of_front.result ≡ min (length (drop a.progress.head (chunk_front a.plan.now b a.kind.now a.id.now))) (length a.buffer.now - a.at))
    c.chunk_at-chunk.ensures.begin c.put_chunk_front-of_front.ensures.count

of_part : (c : goal.After-advanced) → let a = c.args in
    c.put-of_part.result ≡ min (min (length a.part.now) (chunk_end a.plan.now a.progress - a.progress.taken)) (length a.buffer.now - (a.at + c.put_chunk_front-of_front.result))
of_part c =
    let a = c.args in
    let begin = c.chunk_at-chunk.ensures.begin in
    let long = c.chunk_at-chunk.ensures.length in
    let m = c.min.ensures in
    let t = length-take c.min.result a.part.now in
    let same = c.put_chunk_front-of_front.auto.buffer in
    let n = c.put-of_part.ensures.count in
    omega (arith, begin, long, m, t, same, n)

turn : (c : goal.After-advanced) → ReadStep c.args.plan.now c.args.progress c.args.kind.now c.args.id.now c.args.part.now c.put_chunk_front-of_front.result c.put-of_part.result
turn c =
    let a = c.args in
    let i = of_front c in
    let j = of_part c in
    let reached = c.chunk_at-chunk.ensures.within in
    let begin = c.chunk_at-chunk.ensures.begin in
    let long = c.chunk_at-chunk.ensures.length in
    record {
      can = c.requires.can;
      size = some_size a.plan.now.size c.requires.size;
      names = c.requires.names;
      is = c.requires.is;
      unfinished = c.requires.unfinished;
      there = c.requires.part;
      of_front = omega (arith, i);
      of_part = omega (arith, j);
      within = omega (arith, j, reached, begin, long);
      whole = elim (below_or_not c.put_chunk_front-of_front.result (length (drop a.progress.head (chunk_front a.plan.now (chunk_begin a.plan.now a.progress.taken) a.kind.now a.id.now)))) [
        | inl less ↦ inl (omega (arith, i, j, less))
        | inr all ↦ inr all
      ];
    }

advanced_is : (c : goal.After-advanced) → c.advanced.result ≡ advanced (chunk_end c.args.plan.now c.args.progress) c.args.progress c.put_chunk_front-of_front.result c.put-of_part.result
advanced_is c =
    c.advanced.ensures
    ∙ ap₂ (λ b n. advanced (b + n) c.args.progress c.put_chunk_front-of_front.result c.put-of_part.result) c.chunk_at-chunk.ensures.begin c.chunk_at-chunk.ensures.length

pub returns-clause-steps : goal.returns-clause-steps
returns-clause-steps c =
    let a = c.args in
    let p = a.plan.now in
    let i = c.put_chunk_front-of_front.result in
    let j = c.put-of_part.result in
    let few = of_part c in
    let m = c.min.ensures in
    let begin = c.chunk_at-chunk.ensures.begin in
    let long = c.chunk_at-chunk.ensures.length in (
      gone p a.progress a.kind.now a.id.now a.part.now i j,
      puts_on
          (subst (λ b. PutsAt a.at (take i (drop a.progress.head (chunk_front p b a.kind.now a.id.now))) a.buffer.now c.put_chunk_front-of_front.new.buffer i)
          begin c.put_chunk_front-of_front.ensures.put)
          (subst (λ l. PutsAt (a.at + i) l c.put_chunk_front-of_front.new.buffer c.put-of_part.new.buffer j)
          (take-take j c.min.result a.part.now (omega (arith, few, m, begin, long))) c.put-of_part.ensures.put),
      subst (λ n. Steps p a.kind.now a.id.now a.part.now a.progress n (gone p a.progress a.kind.now a.id.now a.part.now i j))
          (sym (advanced_is c)) (turn_on p a.progress a.kind.now a.id.now a.part.now i j (turn c)),
    )

pub returns-clause-is : goal.returns-clause-is
returns-clause-is c =
    let a = c.args in
    subst (IsProgress a.plan.now) (sym (advanced_is c))
    (progress_on a.plan.now a.progress a.kind.now a.id.now a.part.now c.put_chunk_front-of_front.result c.put-of_part.result (turn c))

pub returns-clause-none : goal.returns-clause-none
returns-clause-none c = λ nothing space.
    let a = c.args in
    let p = a.plan.now in
    let i = of_front c in
    let j = of_part c in
    let b = chunk_begin p a.progress.taken in
    let size = front_size p b a.kind.now a.id.now c.requires.names in
    let left = length-drop a.progress.head (chunk_front p b a.kind.now a.id.now) in
    let most = c.requires.is.most in
    let there = c.requires.part in
    let low = mod-le a.progress.taken (chunk_size p) in
    let below = mod_below a.progress.taken (chunk_size p) (some_size p.size c.requires.size) in
    let empty : length a.part.now ≤ 0 = omega (arith, nothing, space, i, j, there, low, below) in
    (sym (take_all 0 a.part.now empty), inr (omega (arith, nothing, space, i, size, left, most)))
