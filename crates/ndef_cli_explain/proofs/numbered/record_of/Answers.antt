use Rattle.std.proofs.Common.{◌-◌, subst, sym}
use Rattle.ndef_cli_explain.proofs.Numbering.{KeepsOn, all_read, found_here, keeps_next, none_left, none_read, some_left}
use Rattle.ndef_cli_explain.proofs.numbered.record_of.Goals as goal

pub returns-in_default : goal.returns-in_default
returns-in_default c =
    none_read c.args.limits c.args.input.now c.loop-rest.rest.now (c.args.number - 1) c.loop-rest.left c.in_default.field-0 c.loop-rest.invariant
    (some_left c.loop-rest.rest.now c.is_empty.result c.is_empty.ensures c.loop-rest-test.true) c.in_default.ensures.reported

pub returns-in-Ok-item_at : goal.returns-in-Ok-item_at
returns-in-Ok-item_at c =
    found_here c.args.limits c.args.input.now c.loop-rest.rest.now (c.args.number - 1) c.loop-rest.left c.in-Ok.reported c.in-Ok-item_at.item c.loop-rest.invariant
    c.in-Ok.ensures.reported c.in-Ok-item_at.ensures.found

pub loop-rest-preserved : goal.loop-rest-preserved
loop-rest-preserved c =
    subst (λ rest. KeepsOn c.args.limits c.args.input.now rest (c.args.number - 1) c.in-Err.later) (sym c.cut.ensures.back)
    (
    keeps_next c.args.limits c.args.input.now c.loop-rest.rest.now (c.args.number - 1) c.loop-rest.left c.in-Err.later c.in-Ok.reported c.loop-rest.invariant c.in-Ok.ensures.reported
    c.in-Err.ensures.later
    )

pub returns : goal.returns
returns c =
    none_left c.args.limits c.args.input.now c.loop-rest.rest.now (c.args.number - 1) c.loop-rest.left c.loop-rest.invariant
    (all_read c.loop-rest.rest.now c.is_empty.result c.is_empty.ensures c.loop-rest-test.false)
