use Rattle.ndef_tool.proofs.Sessions.{viewed_taken, viewed_unread}
use Rattle.ndef_tool.proofs.reading.FromBytesReadingRefSliceU8.read.Goals as goal

pub returns-in_err-to_message-clause-next : goal.returns-in_err-to_message-clause-next
returns-in_err-to_message-clause-next g c =
    viewed_unread g.L.RecordLanguage.payloads g.L.RecordLanguage.reasons c.args.limits c.args.count _ _ c.in_ok-view.view c.from_residual-in_err-to_message.result
    c.from_residual-in_err-to_message.ensures.1 c.in_ok-view.ensures.next c.in_ok-view.ensures.taken.0

pub returns-in_err-to_message-clause-taken : goal.returns-in_err-to_message-clause-taken
returns-in_err-to_message-clause-taken g c =
    viewed_taken (λ read. read.taken) g.L.RecordLanguage.payloads g.L.RecordLanguage.reasons c.args.limits _ _ _ _ c.in_ok-view.view c.from_residual-in_err-to_message.result
    c.from_residual-in_err-to_message.ensures.1 c.in_ok-view.ensures.next.1 c.in_ok-view.ensures.next.2 c.in_ok-view.ensures.taken.0 c.in_ok-view.ensures.taken.1
