use Rattle.std.proofs.Common.{◌≡◌, true, rules, slice_index, sym, subst}
use Rattle.ndef_diagnostics.specs.TagMemory.{Reaches, here, is_passed}
use Rattle.ndef_diagnostics.proofs.TagMemory.{further}
use Rattle.ndef_diagnostics.proofs.tag_memory.past_blocks.Goals as goal

pub loop-place-init : goal.loop-place-init
loop-place-init c = here

pub loop-place-preserved : goal.loop-place-preserved
loop-place-preserved c =
    let passed : is_passed (slice_index c.args.bytes.now c.loop-place.place) ≡ true = search rules in
    subst (λ p. Reaches c.args.bytes.now c.args.start p) (sym c.next_block-place.ensures.value)
    (further c.loop-place.invariant c.loop-place-test.true passed)
