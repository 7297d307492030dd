use Rattle.std.proofs.Common.{refl, sym, ◌∙◌, subst, arith}
use Rattle.ndef_format.specs.Messages.{run_record}
use Rattle.ndef_c.specs.Items.{MayHaveValue, value_of}
use Rattle.ndef_c.proofs.Listed.{record_size, same_value}
use Rattle.ndef_c.proofs.items.item_of.Goals as goal

pub value_at-value-requires-clause-found : goal.value_at-value-requires-clause-found
value_at-value-requires-clause-found c =
    let q = c.requires.found in
    let k = c.ndef_kind-kind.ensures.record q.1 q.2 in
    (q.0, q.1, q.2, λ l. subst (λ n. MayHaveValue q.0 n (run_record q.2.run).payload) (sym k) (q.3 l))

pub in_words-requires-clause-joined : goal.in_words-requires-clause-joined
in_words-requires-clause-joined c =
    let q = c.requires.found in
    let n = record_size c.args.message.now.bytes.now q.1 c.args.found.now q.2 in
    let s = c.requires.short in
    omega (arith, n, s)

pub in_words-requires-clause-chunks : goal.in_words-requires-clause-chunks
in_words-requires-clause-chunks c =
    let q = c.requires.found in
    let n = record_size c.args.message.now.bytes.now q.1 c.args.found.now q.2 in
    let s = c.requires.short in
    omega (arith, n, s)

pub returns : goal.returns
returns c = λ profile at r h.
    let item = run_record r.run in
    let k = c.ndef_kind-kind.ensures.record at r in
    let w = c.in_words.ensures in
    let reported = c.in_words.result in
    let found = c.args.found.now in
    let looks = c.args.message.now.looks in
    let v = c.value_at-value.ensures profile at r (λ l. subst (λ n. MayHaveValue profile n item.payload) (sym k) (h l)) in
    record {
      place = found;
      there = r;
      run_is = refl;
      repeats = w.repeats;
      kind = w.kind ∙ k;
      value = same_value looks profile c.ndef_kind-kind.result reported.kind found.payload_at reported.payload_at found.chunks reported.chunks item.payload c.value_at-value.result (value_of reported) w.kind w.repeats.payload_at w.repeats.chunks w.value v;
    }
