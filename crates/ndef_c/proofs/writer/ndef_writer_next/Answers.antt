use Rattle.std.proofs.Common.{◌≡◌, ◌∙◌, ◌++◌, refl, sym, ap, subst}
use Rattle.std.proofs.lemmas.Bool.{true≢false}
use Rattle.ndef_message.specs.Steps.{Begun, Continues, Given, IsBegun, WritesNext}
use Rattle.ndef_c.specs.Writers.{begun_of}
use Rattle.ndef_c.specs.declared.writer.NdefWriter.{NdefWriter}
use Rattle.ndef_c.proofs.Writers.{continues, left_after, moved_to, nothing_written}
use Rattle.ndef_c.proofs.writer.ndef_writer_next.Goals as goal

pub returns-then-whole-clause-kept : goal.returns-then-whole-clause-kept
returns-then-whole-clause-kept c = λ _.
    let a = c.args in
    let given : Given = record { kind = a.kind.now; id = a.id.now; part = a.part.now } in
    let old : Begun = c.in-Some.encoder in
    let goes : Continues old given = continues old given (λ n. true≢false (sym (c.in-Ok.ensures.refused.1 n))) in
    let left = left_after old given goes in
    let none = (c.is_whole-whole.ensures a.kind.now a.id.now (a.part.now ++ left.0) (record { names = goes.names; all = left.1 })).0 c.if-whole.true in
    (refl, nothing_written left.0 c.in-Ok.ensures.written c.next.auto.buffer left.1 none, refl)

pub returns-clause-written : goal.returns-clause-written
returns-clause-written c = λ _ _.
    let a = c.args in
    let w = a.writer.now in
    let given : Given = record { kind = a.kind.now; id = a.id.now; part = a.part.now } in
    let old = c.in-Some.ensures.some in
    let progress = c.progress-progress in
    let new : NdefWriter = record {
      how = w.how;
      type_length = w.type_length;
      id_length = w.id_length;
      payload_length = w.payload_length;
      taken = progress.result.taken;
      head = progress.result.head;
    } in
    let written = c.in-Ok.ensures.written in
    let same : c.next.new.self ≡ begun_of new =
    moved_to c.next.new.self (begun_of new).plan progress.result (begun_of new).progress (written.plan ∙ ap (λ b. b.plan) old) progress.ensures.value refl in (
      refl,
      record {
        same = refl;
        is = record { may = c.in-Some.ensures.is.may; begun = subst IsBegun same progress.ensures.is };
        writes = subst (λ b. WritesNext b given a.buffer.now c.next.new.buffer c.in-Ok.written (begun_of new)) old
            (subst (λ b. WritesNext c.in-Some.encoder given a.buffer.now c.next.new.buffer c.in-Ok.written b) same written);
      },
    )
