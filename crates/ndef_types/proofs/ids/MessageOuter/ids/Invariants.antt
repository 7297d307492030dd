use Rattle.ndef_types.specs.Ids.{FindsSome}
use Rattle.ndef_types.proofs.ids.MessageOuter.ids.Given as goal

abbrev pub invariant-loop-index : goal.invariant-loop-index
invariant-loop-index l = FindsSome l.fn.self l.index l.ids
