use Rattle.std.proofs.Common.{refl, ap, arith}
use Rattle.ndef_format.specs.HeadReasons.{is_set}
use Rattle.ndef_piece.specs.Whole.{shown}
use Rattle.ndef_message.proofs.Accepting.{run_start, run_on, split_shorter}
use Rattle.ndef_message.proofs.OpenRuns.{run_cut}
use Rattle.ndef_message.proofs.accepted.accepted_chunks.Goals as goal

pub loop-piece-init : goal.loop-piece-init
loop-piece-init c = record {
  shorter = omega arith;
  going_on = c.requires;
  later = λ h. absurd (omega arith);
  goes_on = λ records pieces room m e. run_start c.args.limits.now records pieces room m c.args.place c.args.bytes.now e;
}

pub loop-piece-preserved : goal.loop-piece-preserved
loop-piece-preserved c =
    let l = c.args.limits.now in
    let w = c.in-Some.piece in
    let p = shown w in
    let found = c.in-Some.ensures in
    let inv = c.loop-piece.invariant in
    record {
      shorter = let n = split_shorter p (is_set 4 w.header) w.rest.now c.loop-piece.rest.now found.split in let k = inv.shorter in omega arith;
      going_on = ap (λ x. x.inside) c.past_chunk-found.ensures;
      later = λ h. ap (λ x. x.first) c.past_chunk-found.ensures;
      goes_on = λ records count room m e.
          run_on l records count room m c.args.bytes.now c.loop-piece.rest.now c.loop-piece.found (inv.goes_on records count room m e) p (is_set 4 w.header) w.rest.now found.split found.stands
          c.past_chunk-found.result found.chunked c.past_chunk-found.ensures;
    }

pub whole_chunk-requires : goal.whole_chunk-requires
whole_chunk-requires c = c.loop-piece.invariant.going_on

pub returns : goal.returns
returns c =
    let inv = c.loop-piece.invariant in
    let k = inv.shorter in
    record {
      within = omega arith;
      later = λ h. inv.later (omega arith);
      chunks = λ records count room m e. run_cut c.args.limits.now records count room m c.args.bytes.now c.loop-piece.rest.now c.loop-piece.found (inv.goes_on records count room m e) _ refl;
    }
