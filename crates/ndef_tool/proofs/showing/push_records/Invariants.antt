use Rattle.std.proofs.Common.{take}
use Rattle.std.specs.Prelude.{option_map}
use Rattle.ndef_tool.specs.Members.{FindsFirst}
use Rattle.ndef_tool.specs.Showing.{Adds, AreRecordLines}
use Rattle.ndef_tool.proofs.showing.push_records.Given as goal

abbrev pub invariant-loop-index : goal.invariant-loop-index
invariant-loop-index l = record {
  lines : Adds l.initial.lines l.lines (AreRecordLines l.profile 1 (take l.index l.message));
  first : FindsFirst l.profile (take l.index l.message) (option_map (λ m. m.items) l.first);
}
