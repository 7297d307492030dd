use Rattle.std.proofs.Common.{sym, subst}
use Rattle.std.specs.List.{AllByRecursion}
use Rattle.ndef_format.specs.Payloads.{IsTypedPayload}
use Rattle.ndef_format.specs.NestedReasons.{TypedReason}
use Rattle.ndef_tool.specs.Rules.{typed_rules}
use Rattle.ndef_tool.specs.Showing.{IsTyped}
use Rattle.ndef_tool.proofs.Handling.{check_printed}
use Rattle.ndef_tool.proofs.Members.{next_typed}
use Rattle.ndef_tool.proofs.Sessions.{checked_read, memory_taken}
use Rattle.ndef_tool.proofs.session.print_next.Goals as goal

pub show_block-requires : goal.show_block-requires
show_block-requires g c =
    let read = c.in_ok-read-in-Show.read in
    let typed = next_typed TypedReason c.args.choice.now.limits c.args.count _ _ _ read c.profile.ensures.range c.in_ok-read-in-Show.ensures.next in
    subst (λ profile. AllByRecursion (IsTyped profile) read.message) (sym c.profile.ensures.value) typed

pub returns-in_err-show_block-in-Show-clause-taken : goal.returns-in_err-show_block-in-Show-clause-taken
returns-in_err-show_block-in-Show-clause-taken g c =
    let taken = c.in_ok-read-in-Show.ensures.taken in
    memory_taken (λ printed. printed.taken) (typed_rules c.args.choice.now.limits) _ _ _ _ _ c.in_ok-read-in-Show.read c.from_residual-in_err-show_block-in-Show.ensures.1 c.in_ok-read-in-Show.ensures.next.2 taken.0 taken.1

pub returns-in_err-encode_block-in-Encode-clause-taken : goal.returns-in_err-encode_block-in-Encode-clause-taken
returns-in_err-encode_block-in-Encode-clause-taken g c =
    let taken = c.in_ok-read-in-Encode.ensures.taken in
    memory_taken (λ printed. printed.taken) (typed_rules c.args.choice.now.limits) _ _ _ _ _ c.in_ok-read-in-Encode.read c.from_residual-in_err-encode_block-in-Encode.ensures.1 c.in_ok-read-in-Encode.ensures.next.2 taken.0 taken.1

pub returns-in_ok-checked-in-Check-clause-prints : goal.returns-in_ok-checked-in-Check-clause-prints
returns-in_ok-checked-in-Check-clause-prints g c =
    let checked = c.in_ok-checked-in-Check.checked in
    let next = c.in_ok-checked-in-Check.ensures.next in
    let x = checked_read IsTypedPayload TypedReason c.args.choice.now.limits _ _ checked next.2 in (
      x.0,
      (next.0, next.1, x.3),
      check_printed c.args.choice.now _ c.args.at x.0 checked.records checked.taken _ c.in-Check.is c.check_block.ensures x.2 x.1,
      sym x.1,
    )
