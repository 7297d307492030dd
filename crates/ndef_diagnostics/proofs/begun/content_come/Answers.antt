use Rattle.std.proofs.Common.{◌≡◌, ◌+◌, ◌∙◌, ap, sym, arith, drop}
use Rattle.std.specs.Prelude.{slice_index}
use Rattle.std.proofs.lemmas.List.{drop-drop}
use Rattle.ndef_piece.specs.Come.{lengths_width}
use Rattle.ndef_diagnostics.specs.Begun.{before_payload, id_length}
use Rattle.ndef_diagnostics.proofs.begun.content_come.Goals as goal

pub returns : goal.returns
returns c =
    let s = c.args.octets.now in
    let size = lengths_width (slice_index s 0) in
    let more = slice_index s 1 + id_length s in
    let n : before_payload s ≡ 2 + size + more = omega arith in
    c.after.ensures ∙ ap (λ n. drop n s) (c.before_payload.ensures.value ∙ n)
    ∙ sym (drop-drop more (2 + size) s) ∙ ap (drop more) (sym (drop-drop size 2 s))
