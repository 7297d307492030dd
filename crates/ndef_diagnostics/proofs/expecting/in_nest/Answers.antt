use Rattle.std.proofs.Common.{◌≡◌, ℕ, ◌+◌, ◌-◌, ◌∙◌, ap, ap₂, List, drop, length, subst}
use Rattle.ndef_piece.specs.Come.{content_come}
use Rattle.ndef_piece.specs.Steps.{version_length}
use Rattle.ndef_fields.specs.Refusals.{AreWholeBefore}
use Rattle.ndef_diagnostics.specs.Expectations.{left_from, nested_expected}
use Rattle.ndef_diagnostics.proofs.expecting.in_nest.Goals as goal

pub returns : goal.returns
returns c =
    let come = c.args.come.now in
    let rest = c.whole_pieces-whole.result.rest.now in
    let count = c.whole_pieces-whole.result.count in
    let wholes = c.whole_pieces-whole.ensures.wholes in
    let content = c.content_come-content.ensures in
    let e : c.after.result.now ≡ drop (version_length c.args.table) (content_come come) =
    c.after.ensures ∙ ap₂ (λ n (s : List ℕ). drop n s) c.version_length.ensures content in
    let Whole : List ℕ → Type 0 = λ bytes. (w : AreWholeBefore bytes rest) × (count ≡ length w.pieces) in
    let k = subst Whole e (wholes.whole, wholes.count) in
    let left : c.saturating_sub.result + length rest ≡ left_from come rest =
    ap (λ n. n + length rest)
    (c.saturating_sub.ensures ∙ ap₂ (λ n (s : List ℕ). n - length s) c.payload_length.ensures.value content) in
    let expected = nested_expected c.args.refusal.reason c.args.table in
    let number = ap (λ n. expected (n + 1) (c.saturating_sub.result + length rest) c.through-octets.result.now) k.1 in
    (rest, k.0, c.nested_expected.ensures ∙ number ∙ ap₂ (expected (length k.0.pieces + 1)) left c.through-octets.ensures)
