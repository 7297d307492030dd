use Rattle.std.proofs.Common.{◌∙◌, ap, arith, not}
use mir.Val.{bool_byte}
use Rattle.ndef_format.specs.HeadReasons.{is_set}
use Rattle.ndef_piece.specs.Whole.{shown}
use Rattle.ndef_diagnostics.proofs.KeepsWhole.{at_most_one, byte_ended, split_shorter, whole_first, whole_more}
use Rattle.ndef_diagnostics.proofs.wholes.whole_pieces.Goals as goal

pub loop-piece-init : goal.loop-piece-init
loop-piece-init c = record { keeps = whole_first c.args.bytes.now; few = omega arith; fewer = omega arith }

pub loop-piece-preserved : goal.loop-piece-preserved
loop-piece-preserved c =
    let bytes = c.args.bytes.now in
    let l = c.loop-piece in
    let w = c.in-Some.piece in
    let short = is_set 4 w.header in
    let split = c.in-Some.ensures.piece in
    let e = c.is_chunked-ends_in_chunk.ensures in
    let r = c.from-ended.ensures ∙ ap (λ b. bool_byte (not b)) e ∙ byte_ended (is_set 5 w.header) in
    let more = whole_more bytes l.rest.now w.rest.now l.count l.records l.ends_in_chunk (shown w) short l.invariant.keeps split in
    let n = split_shorter (shown w) short w.rest.now l.rest.now split in
    let few = l.invariant.few in
    let fewer = l.invariant.fewer in
    let one = at_most_one (is_set 5 w.header) in
    record {
      keeps = rw (r, e) more;
      few = omega (arith, few, n);
      fewer = omega (arith, fewer, r, one);
    }

pub returns-clause-wholes : goal.returns-clause-wholes
returns-clause-wholes c =
    let k = c.loop-piece.invariant.keeps in
    record {
      whole = record { pieces = k.pieces; front = k.front; spelled = k.spelled; split = k.split; ended = c.in_default.ensures.none };
      count = k.count_is;
      records = k.records_are;
      chunk = k.chunk_is;
    }
