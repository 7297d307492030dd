use Rattle.std.proofs.Common.{◌≡◌, ◌++◌, ◌-◌, codes, decimal, get_or, subst, refl}
use Rattle.ndef_format.specs.declared.kind.Kind.TheVariants as kinds
use Rattle.ndef_tool.specs.Members.{Counts}
use Rattle.ndef_tool.specs.Showing.{handover_word}
use Rattle.ndef_tool.proofs.Carriers.{handover_members, printed}
use Rattle.ndef_tool.proofs.Lines.{two_parts}
use Rattle.ndef_tool.proofs.handover_lines.push_handover.Goals as goal

pub returns-clause-members : goal.returns-clause-members
returns-clause-members c =
    handover_members c.args.kind c.args.profile c.args.payload.now c.in_ok-members.members.items c.requires.kind c.requires.payload c.in_ok-members.ensures

pub returns-clause-printed : goal.returns-clause-printed
returns-clause-printed c =
    let minor = handover_word c.args.kind ++ decimal (get_or c.args.payload.now 0 0 - 16) in
    let members = c.in_ok-members.members.items in
    let has = handover_members c.args.kind c.args.profile c.args.payload.now members c.requires.kind c.requires.payload c.in_ok-members.ensures in
    let counts = subst (λ ms. Counts kinds.Alternative ms c.count_of.result) c.deref.ensures.value c.count_of.ensures in
    let begun : c.push_counted.new.line ≡ c.args.line.now ++ minor = rw (c.handover_word.ensures, c.from.ensures) at c.in_ok-push_counted.ensures in (
      minor ++ codes " carriers " ++ decimal c.count_of.result,
      two_parts c.args.line.now minor (codes " carriers ") (decimal c.count_of.result) _ _ begun c.in_ok-push_counted-2.ensures,
      printed c.args.kind c.args.profile c.args.payload.now members c.count_of.result _ c.requires.kind c.requires.payload has counts refl,
    )
