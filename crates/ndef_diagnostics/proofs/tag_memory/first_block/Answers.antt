use Rattle.std.proofs.Common.{rules, ◌≡◌, ◌<◌, length, slice_index, subst, sym}
use Rattle.ndef_diagnostics.proofs.TagMemory.{at_message, one_stop}
use Rattle.ndef_diagnostics.proofs.tag_memory.first_block.Goals as goal

pub returns-else-place-bytes-clause-first : goal.returns-else-place-bytes-clause-first
returns-else-place-bytes-clause-first c = λ place block.
    let e = one_stop c.past_blocks-place.ensures.reached c.past_blocks-place.ensures.stops block.reached (at_message block) in
    let inside = subst (λ p. p < length c.args.bytes.now) (sym e) block.inside in
    let tag = subst (λ p. slice_index c.args.bytes.now p ≡ 3) (sym e) block.tag in
    search rules
