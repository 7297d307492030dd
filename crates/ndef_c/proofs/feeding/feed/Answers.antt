use Rattle.std.proofs.Common.{refl, ◌++◌}
use Rattle.ndef_c.proofs.Feeds.{fed_more, fed_done, fed_refused}
use Rattle.ndef_c.proofs.feeding.feed.Goals as goal

pub returns-in-More : goal.returns-in-More
returns-in-More g c = λ limits front h.
    let L = g.L.RecordLanguage in
    let bytes = front ++ c.args.bytes.now in
    let fed = c.in-More.ensures.fed limits front h in
    let reported = c.in-More.ensures.tells limits front h in
    let r = c.refused_by.ensures in
    (fed, fed_more L.reasons bytes c.refused_by.result reported.0 reported.1 c.place.result (c.place.ensures.longest limits bytes fed) r.place r.records r.reason)

pub returns-in-Done : goal.returns-in-Done
returns-in-Done g c = λ limits front h.
    let L = g.L.RecordLanguage in
    let bytes = front ++ c.args.bytes.now in
    let fed = c.in-Done.ensures.fed limits front h in
    let reported = c.in-Done.ensures.tells limits front h in (
      fed,
      fed_done L.reasons bytes (record { place = c.place-in-Done.result; records = c.records.result; reason = 0 }) c.places_are_exact.ensures.longest reported.0 reported.1
          (c.place-in-Done.ensures.longest limits bytes fed) (c.records.ensures.message limits bytes fed) refl,
    )

pub returns-in-Refused : goal.returns-in-Refused
returns-in-Refused g c = λ limits front h.
    let L = g.L.RecordLanguage in
    let bytes = front ++ c.args.bytes.now in
    let fed = c.in-Refused.ensures.fed limits front h in
    let reported = c.in-Refused.ensures.tells limits front h in
    let r = c.refuse.ensures in
    (fed, rw r.refused (fed_refused L.reasons bytes c.refuse.new.out c.in-Refused.refusal reported.0 reported.1 r.place r.records r.reason))
