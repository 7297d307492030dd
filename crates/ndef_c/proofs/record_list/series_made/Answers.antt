use Rattle.std.proofs.Common.{◌≡◌, sym, subst, Some}
use Rattle.std.specs.Prelude.{IfSome, slice_get}
use Rattle.ndef_c.specs.HandoverParts.{alternative_item}
use Rattle.ndef_c.specs.PendingRecord.{made_item}
use Rattle.ndef_c.specs.PosterParts.{icon_item, title_item}
use Rattle.ndef_c.specs.RecordList.{series_items}
use Rattle.ndef_c.proofs.Several.{item_at}
use Rattle.ndef_c.proofs.record_list.series_made.Goals as goal

pub returns-in-Titles-clause-item : goal.returns-in-Titles-clause-item
returns-in-Titles-clause-item c =
    let r = c.title_made.result in
    subst (λ s. IfSome r (λ m. slice_get (series_items s) c.args.index ≡ Some (made_item m))) (sym c.in-Titles.is)
    (item_at r (title_item c.in-Titles.bytes.now) c.in-Titles.titles.now c.args.index c.element.result.now c.element.ensures c.title_made.ensures.item)

pub returns-in-Icons-clause-item : goal.returns-in-Icons-clause-item
returns-in-Icons-clause-item c =
    let r = c.icon_made.result in
    subst (λ s. IfSome r (λ m. slice_get (series_items s) c.args.index ≡ Some (made_item m))) (sym c.in-Icons.is)
    (item_at r (icon_item c.in-Icons.bytes.now) c.in-Icons.icons.now c.args.index c.element-in-Icons.result.now c.element-in-Icons.ensures c.icon_made.ensures.item)

pub returns-in-Alternatives-clause-item : goal.returns-in-Alternatives-clause-item
returns-in-Alternatives-clause-item c =
    let r = c.alternative_made.result in
    let a = c.in-Alternatives in
    subst (λ s. IfSome r (λ m. slice_get (series_items s) c.args.index ≡ Some (made_item m))) (sym a.is)
    (item_at r (alternative_item a.bytes.now a.references.now) a.alternatives.now c.args.index c.element-in-Alternatives.result.now c.element-in-Alternatives.ensures c.alternative_made.ensures.item)
