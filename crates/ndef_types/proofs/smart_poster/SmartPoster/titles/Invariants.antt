use Rattle.std.proofs.Common.{take}
use Rattle.ndef_types.specs.Posters.{titles, StandForTexts}
use Rattle.ndef_types.proofs.smart_poster.SmartPoster.titles.Given as goal

abbrev pub invariant-loop-item : goal.invariant-loop-item
invariant-loop-item l = StandForTexts (titles (take l.item-index l.item-items)) l.texts
