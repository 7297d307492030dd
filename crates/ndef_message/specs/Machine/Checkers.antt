-- The state that a checker shows.
use Rattle.ndef_format.specs.Limits.{LimitValues}
use Rattle.ndef_lang.specs.declared.record_language.RecordLanguage.{Ghosts}
use Rattle.ndef_message.specs.Machine.Points.{Point}
use Rattle.ndef_message.specs.Machine.Fronts.{Fronts}
use Rattle.ndef_message.specs.Machine.State.{MatchesInput}
use Rattle.ndef_message.specs.declared.checker.Checker.{Checker}

-- its limits
abbrev pub checker_limits : {L : Type 0} {language : Ghosts L} → Checker L language → LimitValues
checker_limits c = c.limits

-- the checker took these bytes, a refused one with them: they end these records, and this is the point before the next
-- byte, or before the refused one
abbrev pub CheckerReached : {L : Type 0} {language : Ghosts L} → Checker L language → Fronts Point
CheckerReached {language = language} c = MatchesInput language c.limits c.state c.taken
