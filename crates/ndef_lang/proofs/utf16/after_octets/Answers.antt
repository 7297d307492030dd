use Rattle.std.proofs.Common.{◌∷◌, ◌∙◌, sym, ap}
use Rattle.std.specs.Prelude.{if◌then◌else◌}
use Rattle.ndef_lang.proofs.Utf16Whole.{unit_taken}
use Rattle.ndef_lang.proofs.utf16.after_octets.Goals as goal
use Rattle.ndef_lang.proofs.utf16.after_octets.Goals.{then-little, else-little}

pub returns-in-Whole : goal.returns-in-Whole
returns-in-Whole c =
    let little = c.args.little in
    let first = c.args.first in
    let second = c.args.second in
    let other = c.in-Whole.little in
    let next = c.in-Whole.paired in
    elim c.if-little.branch [
      | then-little w ↦
          let whole = sym w.after-is ∙ c.in-Whole.is in
          unit_taken little c.args.paired w.after_unit-after.result second first first second other next whole (w.after_unit-after.ensures.order other next whole) w.after_unit-after.ensures.completes
          (λ r. ap (λ v. if v then first ∷ second ∷ r else second ∷ first ∷ r) w.if-little.true)
      | else-little w ↦
          let whole = sym w.after-is ∙ c.in-Whole.is in
          unit_taken little c.args.paired w.after_unit-after-else-little.result first second first second other next whole (w.after_unit-after-else-little.ensures.order other next whole) w.after_unit-after-else-little.ensures.completes
          (λ r. ap (λ v. if v then second ∷ first ∷ r else first ∷ second ∷ r) w.if-little.false)
    ]
