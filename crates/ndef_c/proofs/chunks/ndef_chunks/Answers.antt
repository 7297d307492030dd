use Rattle.std.proofs.Common.{length, refl, ap, arith}
use Rattle.ndef_format.specs.Records.{pieces}
use Rattle.ndef_c.proofs.Followed.{one_record}
use Rattle.ndef_c.proofs.chunks.ndef_chunks.Goals as goal

pub tell_pieces-requires : goal.tell_pieces-requires
tell_pieces-requires c =
    let x = c.in-Some.ensures.some in
    let size = x.pieces_are in
    let buffer = c.if-parts-found.false in
    record {
      run = (x.run, _, x.begins);
      buffer = λ run rest b. let same = ap (λ r. length (pieces r)) (one_record x.run run _ _ _ x.begins b).0 in omega (arith, same, size, buffer);
    }

pub returns-clause-pieces : goal.returns-clause-pieces
returns-clause-pieces c = λ _.
    let x = c.in-Some.ensures.some in
    let size = x.pieces_are in
    let buffer = c.if-parts-found.false in
    let reported = c.tell_pieces.ensures x.run _ x.begins in
    record {
      run = x.run;
      rest = _;
      begins = x.begins;
      gives = record {
        count_is = x.pieces_are;
        fits = λ _. (refl, reported.0, reported.1, reported.2, reported.3);
        too_small = λ h. absurd (omega (arith, size, buffer, h));
      };
    }
