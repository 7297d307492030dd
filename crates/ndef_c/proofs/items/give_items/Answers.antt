use Rattle.std.proofs.Common.{sym, subst, refl, arith, inl}
use Rattle.ndef_c.specs.Items.{AreItems, IsItemAt}
use Rattle.ndef_c.specs.declared.items.Listing.{Listing}
use Rattle.ndef_c.proofs.Filled.{is_too_small as too_small, is_enough as enough}
use Rattle.ndef_c.proofs.Listed.{listed_of, taken_of}
use Rattle.ndef_c.proofs.items.give_items.Goals as goal

pub returns-then-items-records-clause-gives : goal.returns-then-items-records-clause-gives
returns-then-items-records-clause-gives g c =
    let t = taken_of g.L.RecordLanguage.payloads g.L.RecordLanguage.reasons c.args.limits c.args.bytes.now c.check_in-checked.result c.check_in-checked.new.out c.check_in-checked.ensures c.if-checked-ne-OK.false in
    inl (record { takes = t; gives = too_small _ _ _ _ t.records c.if-items-records.true })

pub tell_items-requires-clause-listed : goal.tell_items-requires-clause-listed
tell_items-requires-clause-listed g c =
    let m : Listing = record { bytes = c.args.bytes; within = 0; looks = c.args.looks } in
    let t = taken_of g.L.RecordLanguage.payloads g.L.RecordLanguage.reasons c.args.limits c.args.bytes.now c.check_in-checked.result c.check_in-checked.new.out c.check_in-checked.ensures c.if-checked-ne-OK.false in
    (c.args.limits.profile, t.viewed.runs, t.viewed.taken, listed_of g.L.RecordLanguage.payloads g.L.RecordLanguage.reasons c.args.limits m c.check_in-checked.new.out refl c.requires.typed t, sym t.records)

pub returns-clause-gives : goal.returns-clause-gives
returns-clause-gives g c =
    let m : Listing = record { bytes = c.args.bytes; within = 0; looks = c.args.looks } in
    let t = taken_of g.L.RecordLanguage.payloads g.L.RecordLanguage.reasons c.args.limits c.args.bytes.now c.check_in-checked.result c.check_in-checked.new.out c.check_in-checked.ensures c.if-checked-ne-OK.false in
    let a = listed_of g.L.RecordLanguage.payloads g.L.RecordLanguage.reasons c.args.limits m c.check_in-checked.new.out refl c.requires.typed t in
    let e = c.tell_items.ensures c.args.limits.profile t.viewed.runs t.viewed.taken a (sym t.records) in
    let l = c.if-items-records.false in
    let Is = IsItemAt c.args.looks 0 c.args.limits.profile c.args.bytes.now in
    inl (record { takes = t; gives = enough _ _ _ _ _ t.records (omega (arith, l)) e.0 (subst (AreItems Is 0 t.viewed.runs e.0) (sym t.place) e.1) e.2 e.3 })
