use Rattle.std.proofs.Common.{◌∙◌, ap, length, length-append, take, get_or, arith}
use Rattle.ndef_c.specs.RecordList.{all_items, series_items}
use Rattle.ndef_c.specs.declared.record_list.RecordList.TheVariants.{Nothing}
use Rattle.ndef_c.proofs.Several.{items_more}
use Rattle.ndef_c.proofs.series_writing.all_count.Goals as goal

pub loop-record_list-preserved : goal.loop-record_list-preserved
loop-record_list-preserved c =
    let several = c.args.several.now in
    let k = c.loop-record_list.record_list-index in
    let e = ap length (items_more series_items several k Nothing c.loop-record_list-test.true) ∙ length-append (all_items (take k several)) (series_items (get_or several k Nothing)) in
    let i = c.loop-record_list.invariant in
    let n = c.series_count.ensures in
    let sum = c.saturating_add-count.ensures in
    omega (arith, e, i, n, sum)
