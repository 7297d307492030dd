use Rattle.std.proofs.Common.{◌≡◌, ℕ, Bool, List, subst}
use Rattle.ndef_fields.specs.Refusals.{AreWholeBefore}
use Rattle.ndef_diagnostics.specs.Expectations.{IsExpectedBy, is_end}
use Rattle.ndef_diagnostics.specs.Wholes.{ends_in_chunk}
use Rattle.ndef_diagnostics.proofs.expecting.expected_at.Goals as goal

pub returns : goal.returns
returns c =
    let bytes = c.args.bytes.now in
    let refusal = c.args.refusal in
    let come = c.whole_pieces-before.result.rest.now in
    let chunk = c.whole_pieces-before.result.ends_in_chunk in
    let Whole : List ℕ → Type 0 = λ front. (w : AreWholeBefore front come) × (chunk ≡ ends_in_chunk w.pieces) in
    let wholes = c.whole_pieces-before.ensures.wholes in
    let k = subst Whole c.bytes_before.ensures (wholes.whole, wholes.chunk) in
    let By : Bool → Type 0 = λ b. IsExpectedBy (is_end refusal.reason) bytes refusal b come c.expected_after.result in
    (come, k.0, subst By k.1 c.expected_after.ensures)
