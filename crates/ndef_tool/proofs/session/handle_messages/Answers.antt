use Rattle.std.proofs.Common.{◌∙◌, arith, inl, refl}
use Rattle.std.proofs.KnownBytes.{Keeps-trans}
use Rattle.ndef_tool.proofs.Bounded.{greatest_small}
use Rattle.ndef_tool.proofs.Handling.{counts_more, fits_after, handled_more, handled_in_part, silent_end, still_out}
use Rattle.ndef_tool.specs.Rules.{typed_rules}
use Rattle.ndef_tool.proofs.Sessions.{takes_after}
use Rattle.ndef_tool.proofs.session.handle_messages.Goals as goal

pub returns-in-Err-clause-room : goal.returns-in-Err-clause-room
returns-in-Err-clause-room g c =
    let before = c.loop-printed.invariant in
    fits_after c.args.choice.now.limits _ c.loop-printed.count c.loop-printed.at _ _ c.in-Err.outcome c.profile.ensures.range before.few before.room c.in-Err.ensures.taken

pub returns-in_default-clause-handled : goal.returns-in_default-clause-handled
returns-in_default-clause-handled g c = λ clear.
    let before = c.loop-printed.invariant in
    handled_in_part c.args.choice.now _ _ _ _ _ _ _ _ c.loop-printed.count c.loop-printed.at c.in-Ok.printed
    _ _ (g.K.Sink.has_failed c.loop-printed.sink) _ c.in_default.field-0 before.so_far c.in-Ok.ensures.prints (before.mark ∙ clear)
    c.in_default.ensures.sent c.in_default.ensures.mark

pub loop-printed-preserved : goal.loop-printed-preserved
loop-printed-preserved g c =
    let before = c.loop-printed.invariant in
    let prints = c.in-Ok.ensures.prints in
    let taken = c.in-Ok.ensures.taken in
    record {
      few = omega (arith, prints.1.0);
      room = omega (arith, before.room, taken.0, greatest_small c.args.choice.now.limits c.profile.ensures.range);
      taken = counts_more _ _ _ c.loop-printed.at c.in-Ok.printed.taken before.taken taken.1;
      mark = c.in-Ok-send_block.ensures.mark.0 ∙ before.mark;
      so_far = handled_more c.args.choice.now _ _ _ _ _ _ _ c.loop-printed.count c.loop-printed.at _ c.in-Ok.printed
          before.so_far prints c.in-Ok-send_block.ensures.sent.0
          (λ m. (still_out _ _ _ 0 c.in-Ok-send_block.ensures.mark (before.mark ∙ m), c.in-Ok-send_block.ensures.silent (before.mark ∙ m)));
    }

pub returns-in-Err-clause-silent : goal.returns-in-Err-clause-silent
returns-in-Err-clause-silent g c = λ marked.
    let before = c.loop-printed.invariant in
    silent_end c.args.choice.now _ _ _ _ _ _ c.loop-printed.count c.loop-printed.at _ _ c.in-Err.outcome
    (rw marked at before.so_far) before.few c.in-Err.ensures.prints.0 c.in-Err.ensures.prints.1 (before.mark ∙ marked)

pub returns-in_default-clause-silent : goal.returns-in_default-clause-silent
returns-in_default-clause-silent g c = λ marked.
    let before = c.loop-printed.invariant in
    record { keeps = Keeps-trans _ _ _ (before.so_far.quiet marked).1 (c.in_default.ensures.silent (before.mark ∙ marked)); mark = c.in_default.ensures.mark; ends = inl refl }

pub returns-in-Err-clause-taken : goal.returns-in-Err-clause-taken
returns-in-Err-clause-taken g c =
    let before = c.loop-printed.invariant in
    let t = c.in-Err.ensures.taken in (
      t.0,
      takes_after (typed_rules c.args.choice.now.limits) _ _ before.so_far.reads c.loop-printed.at t.0 c.in-Err.outcome before.so_far.follow before.so_far.place t.1,
      counts_more _ _ _ c.loop-printed.at t.0 before.taken t.2,
    )
