use Rattle.ndef_message.specs.Machine.Slices.{ShowsAlone, slice_state}
use Rattle.ndef_message.specs.Sources.{Filled}
use Rattle.ndef_message.specs.contracts.failing_source.FailingSource.{the_row}
use Rattle.ndef_message.specs.contracts.failing_source.FailingSourceSource.fill as fill
use Rattle.ndef_message.proofs.Lent.{rests_less, less, turns}
use Rattle.ndef_message.proofs.failing_source.FailingSourceSource.TheImpl.Goals as goal
use base.Logic.{sep}
use denote.Ref.{NamedLft}
use mir.Syntax.{erased}

-- what is said of the source after the borrow is what the trait asks, and that nothing else changes
pub fill-meets : goal.fill-meets
fill-meets = λ g c.
    let 𝓛 = g.world.𝓛 in
    let x : NamedLft = record { mir = erased; lft = g.lifetime.n1 } in
    let memory = g.world.𝓜.mem in
    let returns = g.world.𝓡.returns in
    let s = c.args.self in
    turns g.world.𝓤 _ _ _ _ (λ r e.
    less g.world.𝓤 (fill.ensures-shows 𝓛 (c.lifetimes.0, (g.lifetime.n1, tt)) memory returns s (record { entry = s; exit = e.0 }) r) _
    (sep g.world.𝓤 (fill.ensures-cut 𝓛 (c.lifetimes.0, (g.lifetime.n1, tt)) memory returns s (record { entry = s; exit = e.0 }) r)
    (fill.ensures-fails 𝓛 (c.lifetimes.0, (g.lifetime.n1, tt)) memory returns s (record { entry = s; exit = e.0 }) r)) _
    (rests_less 𝓛 (the_row x) s.ghost_name
    (λ new. Filled (slice_state s.now.slice s.now.failed) (slice_state new.slice new.failed) new.slice.shown r × ShowsAlone s.now.slice new.slice)
    (λ new. Filled (slice_state s.now.slice s.now.failed) (slice_state new.slice new.failed) new.slice.shown r) (λ n p. p.0)))
