use Rattle.std.proofs.Common.{Some, rules}
use Rattle.ndef_diagnostics.specs.Hints.{IsOfDump}
use Rattle.ndef_diagnostics.specs.declared.hint.Hint.TheVariants.{InTag, Text, MessageAt, AfterBlocks, CodeLeftOut, StandardProfile}
use Rattle.ndef_diagnostics.proofs.TagMemory.{one_find}
use Rattle.ndef_diagnostics.proofs.hint.dump_hint.Goals as goal

pub returns-in-None-clause-none : goal.returns-in-None-clause-none
returns-in-None-clause-none c = λ hint.
    elim hint as (λ h. IsOfDump c.args.bytes.now c.args.refusal h → ⊥) [
      | InTag found ↦ λ a.
          let e = one_find c.args.bytes.now (Some found) c.found_in.result a.2 c.found_in.ensures in search rules
      | Text text ↦ λ a. search rules
      | MessageAt place ↦ λ a. a
      | AfterBlocks ↦ λ a. a
      | CodeLeftOut ↦ λ a. a
      | StandardProfile ↦ λ a. a
    ]
