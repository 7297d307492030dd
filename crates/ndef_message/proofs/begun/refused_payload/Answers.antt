use Rattle.std.proofs.Common.{◌≡◌, ◌+◌, ◌<◌, length, take, subst, refl, arith}
use Rattle.std.proofs.lemmas.List.{take_all}
use Rattle.ndef_lang.specs.Language.{PassesBetween, Reaches, StepsAll}
use Rattle.ndef_lang.specs.StepLaws.{octets_each}
use Rattle.ndef_message.proofs.BegunRecords as begun
use Rattle.ndef_message.proofs.Entered.{reported_yes}
use Rattle.ndef_message.proofs.Resumed.{passed_outside}
use Rattle.ndef_message.proofs.begun.refused_payload.Goals as goal

pub record_at-requires : goal.record_at-requires
record_at-requires g c _ = passed_outside g.L.RecordLanguage.payloads c.args.limits.now c.args.input.now c.args.passed.now.taken c.args.passed.now.place c.requires

pub returns-then-count-record : goal.returns-then-count-record
returns-then-count-record g c =
    let laws = c.format_laws.ensures in
    let L = g.L.RecordLanguage in
    let w = c.in_ok-record.record in
    let input = c.args.input.now in
    let some : 0 < w.head.payload_length = (let k = c.in_ok-record.ensures.few in let l = c.if-count-record.true in omega arith) in
    let small = begun.small laws.laws L laws.range g.met.L.RecordLanguage.payloads_are_octets g.met.L.RecordLanguage.others input c.args.passed.now.taken c.args.passed.now.place c.requires (octets_each _ c.type_inv.input) w c.in_ok-record.ensures c.start-payload.result c.records.ensures.value c.profile.ensures.value c.start-payload.ensures.future c.start-payload.ensures.reached in
    let can : PassesBetween (L.future c.start-payload.result) w.head.payload_length w.head.payload_length = reported_yes (g.met.L.RecordLanguage.exact c.start-payload.result) c.fits.ensures c.from-length.ensures c.from-length.ensures small c.if-not-fits.false in
    let steps : StepsAll (L.future c.start-payload.result) (L.future c.step_all-count.new.self) w.payload.now w.head.payload_length w.head.payload_length c.step_all-count.result = rw c.from-length.ensures at c.step_all-count.ensures.steps in
    begun.refused laws.laws L laws.range g.met.L.RecordLanguage.payloads_are_octets g.met.L.RecordLanguage.others input c.args.passed.now.taken c.args.passed.now.place c.requires (octets_each _ c.type_inv.input) w c.in_ok-record.ensures
    c.start-payload.result c.records.ensures.value c.profile.ensures.value c.start-payload.ensures.future c.start-payload.ensures.reached can some steps refl
    (λ tnf name n profile. c.step_all-count.ensures.reached tnf name n profile) c.if-count-record.true
    (λ tnf name n profile s x. rw c.reason.ensures (c.step_all-count.ensures.reason c.if-count-record.true tnf name n profile s x))

pub returns-then-count-length : goal.returns-then-count-length
returns-then-count-length g c =
    let laws = c.format_laws.ensures in
    let L = g.L.RecordLanguage in
    let w = c.in_ok-record.record in
    let input = c.args.input.now in
    let bytes = w.payload.now in
    let count = c.step_all-count.result in
    let less : count < w.head.payload_length = (let e = c.from-length.ensures in let l = c.if-count-length.true in omega arith) in
    let small = begun.small laws.laws L laws.range g.met.L.RecordLanguage.payloads_are_octets g.met.L.RecordLanguage.others input c.args.passed.now.taken c.args.passed.now.place c.requires (octets_each _ c.type_inv.input) w c.in_ok-record.ensures c.start-payload.result c.records.ensures.value c.profile.ensures.value c.start-payload.ensures.future c.start-payload.ensures.reached in
    let can : PassesBetween (L.future c.start-payload.result) w.head.payload_length w.head.payload_length = reported_yes (g.met.L.RecordLanguage.exact c.start-payload.result) c.fits.ensures c.from-length.ensures c.from-length.ensures small c.if-not-fits.false in
    let steps : StepsAll (L.future c.start-payload.result) (L.future c.step_all-count.new.self) bytes w.head.payload_length w.head.payload_length count = rw c.from-length.ensures at c.step_all-count.ensures.steps in
    let within = steps.within in
    let whole : count ≡ length bytes = (let n = c.if-count-record.false in omega arith) in
    let all : take (count + 1) bytes ≡ bytes = take_all (count + 1) bytes (omega arith) in
    begun.cut_within laws.laws L laws.range g.met.L.RecordLanguage.payloads_are_octets g.met.L.RecordLanguage.others input c.args.passed.now.taken c.args.passed.now.place c.requires (octets_each _ c.type_inv.input) w c.in_ok-record.ensures
    c.start-payload.result c.records.ensures.value c.profile.ensures.value c.start-payload.ensures.future c.start-payload.ensures.reached can (omega arith) steps refl
    (λ tnf name n profile. subst (Reaches (L.reached c.start-payload.result tnf name n profile) (L.reached c.step_all-count.new.self tnf name n profile)) all (c.step_all-count.ensures.reached tnf name n profile)) whole less
