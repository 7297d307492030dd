use Rattle.std.proofs.Common.{◌<◌, ◌∙◌, ap, length, take, refl, sym, subst, true, false, arith}
use Rattle.std.proofs.lemmas.List.{length-take-le}
use Rattle.ndef_piece.specs.Walk.{start}
use Rattle.ndef_message.specs.Machine.Accepted.{AreTakenRecords, EndsRecords}
use Rattle.ndef_message.specs.Machine.State.{numbers}
use Rattle.ndef_message.proofs.Accepting.{records_come}
use Rattle.ndef_message.proofs.Befores.{good_at}
use Rattle.ndef_message.proofs.LoneRecords.{message_of}
use Rattle.ndef_message.proofs.accepted.accepted_message.Goals as goal

pub returns : goal.returns
returns g c =
    let l = c.args.limits.now in
    let set = g.L.RecordLanguage.payloads in
    let bytes = c.args.bytes.now in
    let found = c.accepted_records-taken in
    let range = c.format_laws.ensures.range in
    let records = subst (AreTakenRecords set l c.start.result bytes found.result.0 found.result.1) c.if-not-last.false found.ensures.records in
    let x = records.comes (start l) c.start.ensures refl refl in
    let some : 0 < length (take found.result.0 bytes) = omega (arith, length-take-le found.result.0 bytes records.within, found.ensures.some c.if-not-last.false) in
    let walks = c.messages_are_walks.ensures in
    let good = good_at l range x.pieces x.there x.items x.walked in
    let left = ap (λ p. p.records) x.place_is in
    let n = c.records.ensures.value in
    let e = c.saturating_sub.ensures in
    record {
      within = records.within;
      message = (x.items, message_of walks.messages walks.cut set l range x.items x.there.records (take found.result.0 bytes) (records_come x some), omega (arith, good.counted, left, n, e));
      passed = tt;
    }

pub returns-then-not-last : goal.returns-then-not-last
returns-then-not-last g c =
    let l = c.args.limits.now in
    let set = g.L.RecordLanguage.payloads in
    let bytes = c.args.bytes.now in
    let found = c.accepted_records-taken in
    record {
      within = tt;
      message = tt;
      passed = subst (λ p. AreTakenRecords set l p bytes found.result.0 found.result.1 false) c.start.ensures
          (subst (AreTakenRecords set l c.start.result bytes found.result.0 found.result.1) c.if-not-last.true found.ensures.records);
    }
