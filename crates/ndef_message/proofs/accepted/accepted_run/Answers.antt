use Rattle.std.proofs.Common.{◌≡◌, true, false, sym, ◌∙◌, ap, subst, refl, length, ◌-◌, take, arith}
use Rattle.ndef_format.specs.HeadReasons.{is_set}
use Rattle.ndef_format.specs.Positions as pieces
use Rattle.ndef_piece.specs.Whole.{shown}
use Rattle.ndef_message.specs.Machine.Accepted.{EndsRun}
use Rattle.ndef_message.specs.Machine.State.{spot_of}
use Rattle.ndef_message.proofs.Accepting.{run_start, run_on, run_end, split_shorter}
use Rattle.ndef_message.proofs.accepted.accepted_run.Goals as goal

pub loop-init : goal.loop-init
loop-init c = record { shorter = omega arith; going_on = c.requires; goes_on = λ records pieces room m e. run_start c.args.limits.now records pieces room m c.args.place c.args.bytes.now e }

pub loop-preserved : goal.loop-preserved
loop-preserved c =
    let l = c.args.limits.now in
    let w = c.in_ok-piece.piece in
    let p = shown w in
    let spot : c.spot.result ≡ spot_of l.profile c.loop.at = c.spot.ensures ∙ ap (λ x. spot_of x c.loop.at) c.profile-profile.ensures.value in
    let stands = subst (λ x. pieces.IsConsistentAt x p) spot (c.goes_on_at.ensures c.if-not-goes_on_at.false) in
    let chunked : is_set 5 w.header ≡ true = sym c.is_chunked.ensures ∙ c.if-not-is_chunked.false in
    record {
      shorter = let n = split_shorter p (is_set 4 w.header) w.rest.now c.loop.rest.now c.in_ok-piece.ensures.piece in let k = c.loop.invariant.shorter in omega arith;
      going_on = ap (λ x. x.inside) c.past_chunk-at.ensures;
      goes_on = λ records count room m e.
          run_on l records count room m c.args.bytes.now c.loop.rest.now c.loop.at (c.loop.invariant.goes_on records count room m e) p (is_set 4 w.header) w.rest.now c.in_ok-piece.ensures.piece stands
          c.past_chunk-at.result chunked c.past_chunk-at.ensures;
    }

pub goes_on_at-requires : goal.goes_on_at-requires
goes_on_at-requires c = ap (λ x. x.inside) c.spot.ensures ∙ c.loop.invariant.going_on

pub overflow_sub-result : goal.overflow_sub-result
overflow_sub-result c =
    let w = c.in_ok-piece.piece in
    let n = split_shorter (shown w) (is_set 4 w.header) w.rest.now c.loop.rest.now c.in_ok-piece.ensures.piece in
    let k = c.loop.invariant.shorter in
    omega arith

pub returns-then-not-is_chunked-clause-ends : goal.returns-then-not-is_chunked-clause-ends
returns-then-not-is_chunked-clause-ends c =
    let l = c.args.limits.now in
    let w = c.in_ok-piece.piece in
    let p = shown w in
    let spot : c.spot.result ≡ spot_of l.profile c.loop.at = c.spot.ensures ∙ ap (λ x. spot_of x c.loop.at) c.profile-profile.ensures.value in
    let stands = subst (λ x. pieces.IsConsistentAt x p) spot (c.goes_on_at.ensures c.if-not-goes_on_at.false) in
    let whole : is_set 5 w.header ≡ false = sym c.is_chunked.ensures ∙ c.if-not-is_chunked.true in
    λ records count room m e.
    subst (EndsRun l records count room m (take (length c.args.bytes.now - length w.rest.now) c.args.bytes.now)) (sym c.is_last.ensures)
    (run_end l records count room m c.args.bytes.now c.loop.rest.now c.loop.at (c.loop.invariant.goes_on records count room m e) p (is_set 4 w.header) w.rest.now c.in_ok-piece.ensures.piece stands _ whole refl).1
