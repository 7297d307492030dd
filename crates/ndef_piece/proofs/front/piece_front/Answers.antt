use Rattle.std.proofs.Common.{◌∙◌, ap, sym, refl, true≢false, [], ◌∷◌, ◌++◌, append-nil}
use Rattle.ndef_value.specs.SliceLaws.{each_octet}
use Rattle.ndef_piece.proofs.Wire.{begun_first, whole_first, whole_parts}
use Rattle.ndef_piece.proofs.front.piece_front.Goals as goal

pub returns-in-Some-clause-front : goal.returns-in-Some-clause-front
returns-in-Some-clause-front c =
    let w = c.whole_front.ensures in
    let f = c.whole_front.result in
    record {
      joined = w.joined;
      header = w.header ∙ c.in-Some.ensures.header;
      first = λ some. whole_first f c.in-Some.piece.rest.now c.args.octets.now w.joined w.split;
      parts = whole_parts f c.in-Some.piece.rest.now c.args.octets.now w.joined w.split w.no_id;
      whole = λ e. w.split;
      begun = λ e. absurd (true≢false (sym w.whole ∙ e));
    }

pub returns-in-None-clause-front : goal.returns-in-None-clause-front
returns-in-None-clause-front c =
    let s = c.args.octets.now in
    let b = c.begun_front.ensures in
    record {
      joined = sym (append-nil s) ∙ ap (λ x. x ++ []) (sym b.octets);
      header = b.header;
      first = λ some. begun_first s (each_octet s c.type_inv.octets) c.in-None.ensures.none some ∙ ap (λ x. x ∷ []) (sym b.octets);
      parts = b.parts;
      whole = λ e. absurd (true≢false (sym e ∙ b.whole));
      begun = λ e. record { none = refl; ended = c.in-None.ensures.none };
    }
