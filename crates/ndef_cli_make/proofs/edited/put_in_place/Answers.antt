use Rattle.std.proofs.Common.{◌∙◌, ◌++◌, ◌+◌, ap, drop, sym, take}
use Rattle.ndef_cli_make.specs.Editing.{in_place}
use Rattle.ndef_cli_make.proofs.Edits.{replaced, unaltered}
use Rattle.ndef_cli_make.proofs.edited.put_in_place.Goals as goal

pub returns-in_default : goal.returns-in_default
returns-in_default c item is =
    let xs = c.args.records.now.items in
    unaltered xs c.args.at item is ∙ ap (λ o. take c.args.at xs ++ (in_place o item ++ drop (c.args.at + 1) xs)) (sym c.in_default.is)

pub returns-in-Some-into_record : goal.returns-in-Some-into_record
returns-in-Some-into_record c item is =
    replaced c.args.edit c.in-Some.edit c.args.records.now.items c.args.at c.in-Some-into_record.record item c.in-Some.is (sym c.into_record.ensures ∙ c.in-Some-into_record.is) c.requires
