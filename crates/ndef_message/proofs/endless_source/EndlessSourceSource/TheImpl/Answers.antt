use Rattle.std.specs.Prelude.{◌≡◌, false, None}
use Rattle.ndef_message.specs.Machine.Faults.{shown_next}
use Rattle.ndef_message.specs.Sources.{Filled, state_of}
use Rattle.ndef_message.specs.contracts.endless_source.EndlessSource.{the_row}
use Rattle.ndef_message.specs.contracts.endless_source.EndlessSourceSource.fill as fill
use Rattle.ndef_message.proofs.Lent.{rests_less, less, turns}
use Rattle.ndef_message.proofs.endless_source.EndlessSourceSource.TheImpl.Goals as goal
use base.Logic.{sep}
use denote.Ref.{NamedLft}
use mir.Syntax.{erased}

-- what is said of the source after the borrow is what the trait asks, and what is left and comes again
pub fill-meets : goal.fill-meets
fill-meets = λ g c.
    let 𝓛 = g.world.𝓛 in
    let x : NamedLft = record { mir = erased; lft = g.lifetime.n1 } in
    let memory = g.world.𝓜.mem in
    let returns = g.world.𝓡.returns in
    let s = c.args.self in
    turns g.world.𝓤 _ _ _ _ (λ r e.
    less g.world.𝓤 (fill.ensures-shows 𝓛 (c.lifetimes.0, (g.lifetime.n1, tt)) memory returns s (record { entry = s; exit = e.0 }) r) _
    (sep g.world.𝓤 (fill.ensures-next 𝓛 (c.lifetimes.0, (g.lifetime.n1, tt)) memory returns s (record { entry = s; exit = e.0 }) r)
    (fill.ensures-some 𝓛 (c.lifetimes.0, (g.lifetime.n1, tt)) memory returns s (record { entry = s; exit = e.0 }) r)) _
    (rests_less 𝓛 (the_row x) s.ghost_name
    (λ new. Filled (state_of None s.now.taken false) (state_of None new.taken false) new.shown r × (new.rest ≡ shown_next s.now) × (new.pattern ≡ s.now.pattern))
    (λ new. Filled (state_of None s.now.taken false) (state_of None new.taken false) new.shown r) (λ n p. p.0)))
