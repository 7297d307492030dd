use Rattle.std.proofs.Common.{◌∙◌, ap, ap₂, sym, ℕ, List, take, drop}
use Rattle.std.specs.Prelude.{slice_index}
use Rattle.std.proofs.lemmas.List.{drop-drop}
use Rattle.ndef_piece.specs.Come.{lengths_width}
use Rattle.ndef_diagnostics.proofs.begun.kind_come.Goals as goal

pub returns : goal.returns
returns c =
    let s = c.args.octets.now in
    let rest = c.after-rest.ensures ∙ ap (λ n. drop n s) c.head_length.ensures.value ∙ sym (drop-drop (lengths_width (slice_index s 0)) 2 s) in
    c.front_of.ensures ∙ ap₂ (λ n (x : List ℕ). take n x) (c.from.ensures ∙ c.octet_at.ensures) rest
