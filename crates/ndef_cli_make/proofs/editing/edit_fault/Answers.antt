use Rattle.std.proofs.Common.{map, string_bytes, sym, take}
use Rattle.ndef_cli_make.specs.Editing.{edit_map}
use Rattle.ndef_cli_make.proofs.Lists.{mapped_at}
use Rattle.ndef_cli_make.proofs.editing.edit_fault.Goals as goal

pub returns-in-Some : goal.returns-in-Some
returns-in-Some c =
    let ps = c.args.parts.now in
    let n = c.loop-part.part-index in
    let p = c.part-item.result in
    let split = mapped_at (λ part. map string_bytes part.now) ps n p c.loop-part-test.true c.part-item.is in
    (map (λ part. map string_bytes part.now) (take n ps), split.0, map string_bytes p.now, edit_map (λ words. map string_bytes words.now) c.in_ok-edit.edit, split.1, sym c.in_ok-edit.ensures, c.in-Some.ensures.error)
