use Rattle.std.proofs.Common.{◌<◌, sym, subst}
use Rattle.ndef_format.specs.Payloads.{Sets}
use Rattle.ndef_format.specs.Reasons.{Conditions}
use Rattle.ndef_message.specs.Decoding.{FeedsTakeBytes}
use Rattle.ndef_message.specs.declared.event.Event.TheVariants as event
use Rattle.ndef_message.proofs.reading_laws.feeds_take_bytes.Goals as goal

takes : (set : Sets) (holds : Conditions) → FeedsTakeBytes set holds
takes set holds limits s bytes taken event.More some goes b = subst (λ n. 0 < n) (sym b.0) some
takes set holds limits s bytes taken (event.Whole item last) some goes b = b.0
takes set holds limits s bytes taken (event.Refused refusal) some goes b = absurd cc
takes set holds limits s bytes taken (event.Failed fault) some goes b = absurd cc
takes set holds limits s bytes taken event.Over some goes b = absurd cc

pub returns : goal.returns
returns g c = takes g.L.RecordLanguage.payloads g.L.RecordLanguage.reasons
