use Rattle.std.proofs.Common.{◌+◌, ap, subst}
use Rattle.ndef_message.specs.Machine.Accepted.{AreTakenRecords}
use Rattle.ndef_message.proofs.Accepting.{records_start, records_on}
use Rattle.ndef_message.proofs.accepted.accepted_records.Goals as goal

pub loop-at-init : goal.loop-at-init
loop-at-init g c = record { records = records_start g.L.RecordLanguage.payloads c.args.limits.now c.args.place c.args.bytes.now; out = λ h. h }

pub loop-at-preserved : goal.loop-at-preserved
loop-at-preserved g c =
    let l = c.args.limits.now in
    let set = g.L.RecordLanguage.payloads in
    record {
      records = subst (AreTakenRecords set l c.args.place c.args.bytes.now (c.loop-at.at + c.in-Some.taken) c.after_record-found.result) c.if-last.false
          (records_on set l c.args.place c.loop-at.found c.after_record-found.result c.args.bytes.now c.loop-at.at c.in-Some.taken c.in-Some.last c.loop-at.invariant.records c.in-Some.ensures c.after_record-found.ensures);
      out = λ h. ap (λ x. x.inside) c.after_record-found.ensures;
    }

pub returns-then-last-clause-records : goal.returns-then-last-clause-records
returns-then-last-clause-records g c =
    let l = c.args.limits.now in
    let set = g.L.RecordLanguage.payloads in
    subst (AreTakenRecords set l c.args.place c.args.bytes.now (c.loop-at.at + c.in-Some.taken) c.after_record-found.result) c.if-last.true
    (records_on set l c.args.place c.loop-at.found c.after_record-found.result c.args.bytes.now c.loop-at.at c.in-Some.taken c.in-Some.last c.loop-at.invariant.records c.in-Some.ensures c.after_record-found.ensures)
