use Rattle.std.proofs.Common.{◌∙◌, [], Ok, Err, refl, inl, inr}
use Rattle.std.proofs.KnownBytes.{Appends-nil, Keeps-refl}
use Rattle.ndef_cli.specs.Outcomes.{status_of}
use Rattle.ndef_tool.specs.Output.{ndef_usage}
use Rattle.ndef_cli.specs.declared.args_error.ArgsError.TheVariants.{Usage, NoMemory}
use Rattle.ndef_cli.specs.declared.status.Status.TheVariants as status
use Rattle.ndef_tool.proofs.Handling.{failed_status, session_ends, silent_ends}
use Rattle.ndef_tool.proofs.Outputs.{goes_after, nothing_out, stays_failed, usage_status}
use Rattle.ndef_tool.proofs.Sessions.{reads_on}
use Rattle.ndef_tool.specs.Inputs.{ReadsIn}
use Rattle.ndef_tool.proofs.running.run.Goals as goal

pub returns-in-Err-NoMemory-clause-runs : goal.returns-in-Err-NoMemory-clause-runs
returns-in-Err-NoMemory-clause-runs g c = λ clear.
    let out = nothing_out (g.K.Sink.written c.args.sink.now) (g.K.Sink.has_failed c.args.sink.now) clear in
    (Err NoMemory, tt, ([], status.Fault, (refl, refl, refl), out.0, out.1))

pub returns-in-Err-Usage-clause-runs : goal.returns-in-Err-Usage-clause-runs
returns-in-Err-Usage-clause-runs g c = λ clear. (
  Err Usage,
  (rw c.in-Err-Usage.field-0-is at c.in-Err-Usage.ensures).chosen,
  (
    ndef_usage,
    status.Usage,
    (refl, refl, refl),
    goes_after _ _ _ (g.K.Sink.has_failed c.args.sink.now) _ [] ndef_usage c.send.result clear (Appends-nil _) c.send.ensures.sent c.send.ensures.mark,
    usage_status (g.K.Sink.has_failed c.args.sink.now) _ ndef_usage c.send.result status.Usage _ clear c.send.ensures.mark c.end.ensures,
  ),
)

pub returns-in-Ok-clause-runs : goal.returns-in-Ok-clause-runs
returns-in-Ok-clause-runs g c = λ clear.
    let session = c.handle-session.result in
    let choice = c.in-Ok.choice in
    let done = session_ends (ReadsIn choice.hex choice _ _ _) (ReadsIn choice.hex choice _ _ _) choice _ _ _ _
    (g.K.Sink.has_failed c.handle-session.new.sink) _ session c.as_slice.result.now c.send-in-Ok.result c.end-in-Ok.result
    (λ reads on h. reads_on choice.hex choice _ _ _ _ reads session.outcome on h)
    (c.handle-session.ensures.handled clear) (c.as_slice.ensures.value ∙ c.outcome_line-line.ensures)
    c.send-in-Ok.ensures.sent c.send-in-Ok.ensures.mark (rw c.status_of.ensures at c.end-in-Ok.ensures) in (
      Ok choice,
      c.in-Ok.ensures.chosen,
      (
        done.1,
        status_of session.outcome,
        (done.0, session.outcome, done.2, done.3, refl),
        done.4,
        done.5,
      ),
    )

pub returns-in-Err-NoMemory-clause-silent : goal.returns-in-Err-NoMemory-clause-silent
returns-in-Err-NoMemory-clause-silent g c = λ marked. (Keeps-refl (g.K.Sink.written c.args.sink.now), marked, inl refl)

pub returns-in-Err-Usage-clause-silent : goal.returns-in-Err-Usage-clause-silent
returns-in-Err-Usage-clause-silent g c = λ marked. (
  c.send.ensures.silent marked,
  stays_failed (g.K.Sink.has_failed c.args.sink.now) _ ndef_usage c.send.result c.send.ensures.mark marked,
  elim (failed_status (g.K.Sink.has_failed c.args.sink.now) _ ndef_usage c.send.result status.Usage _ marked c.send.ensures.mark c.end.ensures) [ inl h ↦ absurd (let e = h.0 in cc) | inr h ↦ inl h ],
)

pub returns-in-Ok-clause-silent : goal.returns-in-Ok-clause-silent
returns-in-Ok-clause-silent g c = λ marked.
    let session = c.handle-session.result in
    let choice = c.in-Ok.choice in
    let done = silent_ends (ReadsIn choice.hex choice _ _ _) (ReadsIn choice.hex choice _ _ _) choice _ _ _ _
    (g.K.Sink.has_failed c.handle-session.new.sink) _ session c.as_slice.result.now c.send-in-Ok.result c.end-in-Ok.result
    (λ reads on h. reads_on choice.hex choice _ _ _ _ reads session.outcome on h)
    (c.handle-session.ensures.silent marked) (c.as_slice.ensures.value ∙ c.outcome_line-line.ensures)
    (c.send-in-Ok.ensures.silent (c.handle-session.ensures.silent marked).mark) c.send-in-Ok.ensures.mark (rw c.status_of.ensures at c.end-in-Ok.ensures) in
    (done.0, done.1, elim done.2 [ inl h ↦ inl h | inr h ↦ inr (Ok choice, c.in-Ok.ensures.chosen, (h.0, session.outcome, h.1, h.2, h.3)) ])
