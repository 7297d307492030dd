use Rattle.std.proofs.Common.{◌≡◌, Err, Ok, inl, inr, length, map, refl, rules, sym}
use Rattle.std.specs.List.{flat_map}
use Rattle.ndef_cli_make.specs.Asked.{asked_part}
use Rattle.ndef_cli_make.specs.Editing.{added_by, edit_map}
use Rattle.ndef_cli_make.proofs.EditedMessages.{all_edited, message_made, numbers_for}
use Rattle.ndef_cli_make.proofs.edited.edit_message.Goals as goal

pub returns-in_err-check_numbers : goal.returns-in_err-check_numbers
returns-in_err-check_numbers g c =
    let fault = c.in_err-check_numbers.field-0.0 in
    let counted : c.len-count.result ≡ length c.args.old.items = search rules in
    let is : c.from_residual.result ≡ Err fault = search rules in
    rw is (inl (refl, numbers_for asked_part c.args.old.items c.len-count.result c.args.edits.now (Err fault) counted c.in_err-check_numbers.ensures))

pub returns-in_err-others : goal.returns-in_err-others
returns-in_err-others g c =
    let fault = c.in_err-others.field-0.0 in
    let counted : c.len-count.result ≡ length c.args.old.items = search rules in
    let is : c.from_residual-in_err-others.result ≡ Err fault = search rules in
    rw is (inr (numbers_for asked_part c.args.old.items c.len-count.result c.args.edits.now (Ok tt) counted c.in_ok-check_numbers.ensures, inl c.in_err-others.ensures))

pub returns : goal.returns
returns g c =
    let old = c.args.old.items in
    let counted : c.len-count.result ≡ length old = search rules in
    let made = c.in_ok-others.ensures in
    let numbers = numbers_for asked_part old c.len-count.result c.args.edits.now (Ok tt) counted c.in_ok-check_numbers.ensures in
    message_made g.I.Inputs.gives (map (edit_map asked_part) c.args.edits.now) c.args.writing old _ _ made.0 c.put_all.new.records.items c.write_edited.result numbers made.1
    (all_edited old (flat_map added_by made.0) c.put_all.new.records.items c.in_ok-others.others.items made.0
    (c.put_all.ensures old (flat_map added_by made.0) made.2 (sym counted)) made.3 refl) c.write_edited.ensures
