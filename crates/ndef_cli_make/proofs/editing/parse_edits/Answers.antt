use Rattle.std.proofs.Common.{◌≡◌, ◌∙◌, ◌+◌, ap, length, map, string_bytes, subst, sym, rules, Err}
use Rattle.std.specs.Prelude.{option_map}
use Rattle.std.proofs.lemmas.List.{length-map}
use Rattle.ndef_cli_make.specs.Asked.{asked_part}
use Rattle.ndef_cli_make.specs.Editing.{AreParsed, edit_map}
use Rattle.ndef_cli_make.specs.Faults.{fault_at}
use Rattle.ndef_cli_make.proofs.Parsing.{wrong_at}
use Rattle.ndef_cli_make.proofs.editing.parse_edits.Goals as goal

pub returns-in-Err : goal.returns-in-Err
returns-in-Err c =
    let fault = c.in-Err.fault in
    let edits = c.loop-part.edits.items in
    let file = option_map (λ name. name.now) c.args.file in
    let e : fault_at (length edits + 1) fault ≡ c.at.result = ap (λ n. fault_at n fault) (sym (search rules)) ∙ sym c.at.ensures in
    subst (λ reported. AreParsed file (map (λ part. map string_bytes part.now) c.args.parts.now) (Err reported)) e
    (wrong_at file (λ part. map string_bytes part.now) c.args.parts.now c.loop-part.part-index c.part-item.result (map (edit_map asked_part) edits) (length edits + 1) fault c.loop-part-test.true c.part-item.is
    c.loop-part.invariant.1 c.in-Err.ensures.edit (ap (λ k. k + 1) (sym (length-map edits (edit_map asked_part)))))
