use Rattle.std.proofs.Common.{◌≡◌, length, sym, ap, ◌∙◌}
use Rattle.std.specs.Prelude.{slice_index}
use Rattle.ndef_piece.specs.Header.{size}
use Rattle.ndef_piece.specs.HeaderLaws.{octets_size}
use Rattle.ndef_piece.proofs.head_reader.step_after.Goals as goal

pub returns-else-taken-size-clause-whole : goal.returns-else-taken-size-clause-whole
returns-else-taken-size-clause-whole c = λ f l e.
    let taken = c.args.taken.now in
    let n : length taken ≡ size (slice_index taken 0) = ap length (sym e) ∙ octets_size f l.tnf ∙ ap (λ x. size (slice_index x 0)) e in
    absurd (c.if-taken-size.false (n ∙ sym c.size.ensures))
