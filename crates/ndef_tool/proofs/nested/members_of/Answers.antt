use Rattle.std.proofs.Common.{◌∙◌, sym, subst, arith}
use Rattle.ndef_format.specs.Nested.{table_in}
use Rattle.ndef_tool.proofs.Walking.{IsLeft, all_taken, is_inner, none_taken, one_taken}
use Rattle.ndef_tool.proofs.nested.members_of.Goals as goal

pub step-requires : goal.step-requires
step-requires c = c.loop-step.invariant.places

pub loop-step-init : goal.loop-step-init
loop-step-init c =
    let w = c.of_payload-walk.result in
    let e = c.of_payload-walk.ensures in
    record {
      places = e.places;
      outer = e.outer;
      left = λ table runs k single spelled. subst (λ members. IsLeft table runs members w) (sym c.new-members.ensures.items)
          (none_taken table runs (table_in c.args.kind) w c.args.payload.now e.inner e.table k single spelled);
    }

pub loop-step-preserved : goal.loop-step-preserved
loop-step-preserved c =
    let before = c.loop-step.invariant in
    let step = c.in-Some.ensures.next in
    record {
      places = omega (arith, step.places, before.places);
      outer = (is_inner c.loop-step.walk c.in-Some.step c.in-Some.next before.outer step).outer ∙ before.outer;
      left = λ table runs k single spelled. subst (λ members. IsLeft table runs members c.in-Some.next) (sym c.in_ok-push.ensures.items)
          (one_taken table runs c.loop-step.members.items c.loop-step.walk c.in-Some.step c.in-Some.next before.outer step (before.left table runs k single spelled));
    }

pub returns : goal.returns
returns c = λ table runs k single spelled.
    all_taken table runs c.loop-step.members.items c.loop-step.walk c.in_default.ensures.none (c.loop-step.invariant.left table runs k single spelled)
