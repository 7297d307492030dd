use Rattle.std.proofs.Common.{[], sym, subst, append-nil}
use Rattle.ndef_tool.specs.Linking.{AreCarrierLines}
use Rattle.ndef_tool.proofs.Carriers.{are_carriers, lines_linked, none_linked}
use Rattle.ndef_tool.proofs.Lines.{on_ok}
use Rattle.ndef_tool.proofs.linking.push_link_lines.Goals as goal

pub returns-in_default : goal.returns-in_default
returns-in_default c =
    ([], sym (append-nil c.args.lines.now), none_linked c.args.profile c.args.message.now (rw c.in_default.is at c.requires.first))

pub push_carriers-requires-clause-carriers : goal.push_carriers-requires-clause-carriers
push_carriers-requires-clause-carriers c =
    rw c.deref.ensures.value (are_carriers c.args.profile c.args.message.now c.in-Some.members.items c.requires.typed (rw c.in-Some.is at c.requires.first))

pub returns : goal.returns
returns c =
    let items = c.args.message.now in
    let members = c.in-Some.members.items in
    on_ok c.push_carriers.result c.push_carriers.ensures
    (λ h. (
      h.0,
      h.1,
      lines_linked c.args.profile items members h.0 c.requires.typed (rw c.in-Some.is at c.requires.first)
          (subst (λ ms. AreCarrierLines items 1 ms h.0) c.deref.ensures.value h.2),
    ))
