use Rattle.std.proofs.Common.{ℕ, List, ◌-◌, take}
use Rattle.ndef_format.specs.declared.profile.Profile.{Profile}
use Rattle.ndef_format.specs.declared.tnf.Tnf.{Tnf}
use Rattle.ndef_lang.specs.Language.{PassesBetween, Continues, Reaches}
use Rattle.ndef_lang.proofs.record_language.RecordLanguage.step_all.Given as goal

abbrev pub invariant-loop-at : goal.invariant-loop-at
invariant-loop-at g l =
    let L = g.Self.RecordLanguage in
    record {
      follows : Continues (L.future l.initial.self) (L.future l.self) (take l.at l.bytes);
      reached : (tnf : Tnf) (name : List ℕ) (records : ℕ) (profile : Profile) → Reaches (L.reached l.initial.self tnf name records profile) (L.reached l.self tnf name records profile) (take l.at l.bytes);
      fits : PassesBetween (L.future l.self) (l.lo - l.at) (l.hi - l.at);
    }
