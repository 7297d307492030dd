use Rattle.std.proofs.Common.{◌∙◌, inl, inr, refl, subst}
use Rattle.ndef_message.specs.States.{sink_state}
use Rattle.ndef_cli.specs.Outputs.{Prints}
use Rattle.ndef_cli.specs.declared.status.Status.TheVariants.{Usage}
use Rattle.ndef_cli.proofs.args.tell_word.Goals as goal

pub returns-in-Ok : goal.returns-in-Ok
returns-in-Ok g c =
    inl (subst (λ text. Prints text Usage (sink_state g.K.Sink c.args.sink.now) (sink_state g.K.Sink c.print.new.sink) c.print.result)
    (c.as_slice.ensures.value ∙ c.in-Ok.ensures) c.print.ensures)

pub returns-in-Err : goal.returns-in-Err
returns-in-Err g c = inr (refl, refl)
