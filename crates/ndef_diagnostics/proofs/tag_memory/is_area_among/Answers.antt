use Rattle.std.proofs.Common.{◌≡◌, true, false, rules, slice_index, sym, subst}
use Rattle.ndef_diagnostics.specs.TagMemory.{HasArea, Reaches, Stops, here, is_passed, states_area}
use Rattle.ndef_diagnostics.proofs.TagMemory.{area_ahead, further, no_area}
use Rattle.ndef_diagnostics.proofs.tag_memory.is_area_among.Goals as goal

pub loop-place-init : goal.loop-place-init
loop-place-init c = (here, λ h. h)

pub loop-place-preserved : goal.loop-place-preserved
loop-place-preserved c =
    let bytes = c.args.bytes.now in
    let passed : is_passed (slice_index bytes c.loop-place.place) ≡ true = search rules in
    let none : states_area bytes c.args.start c.args.until c.loop-place.place ≡ false = search rules in
    let next = sym c.next_block-place.ensures.value in (
      subst (λ p. Reaches bytes c.args.start p) next (further c.loop-place.invariant.0 c.loop-place-test.true passed),
      λ h. subst (λ p. HasArea bytes c.args.start c.args.until p) next (area_ahead (c.loop-place.invariant.1 h) none),
    )

pub returns-else-is_passed : goal.returns-else-is_passed
returns-else-is_passed c =
    let stops : Stops c.args.bytes.now c.loop-place.place = λ inside passed. search rules in (
      λ t. search rules,
      λ h.
          let ahead = c.loop-place.invariant.1 h in
          absurd (no_area c.args.bytes.now c.args.start c.args.until c.loop-place.place stops ahead),
    )

pub returns-after-loop-place : goal.returns-after-loop-place
returns-after-loop-place c =
    let stops : Stops c.args.bytes.now c.loop-place.place = λ inside passed. search rules in (
      λ t. search rules,
      λ h.
          let ahead = c.loop-place.invariant.1 h in
          absurd (no_area c.args.bytes.now c.args.start c.args.until c.loop-place.place stops ahead),
    )
