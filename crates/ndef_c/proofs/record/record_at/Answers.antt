use Rattle.std.proofs.Common.{◌≡◌, [], ◌≤◌, ◌+◌, ◌-◌, length, drop, refl, sym, ◌∙◌, ap, subst, arith}
use Rattle.ndef_format.specs.Records.{bit, code, tnf_of}
use Rattle.ndef_format.specs.Messages.{run_record}
use Rattle.ndef_format.specs.HeadReasons.{is_set}
use Rattle.std.specs.Prelude.{unwrap_or}
use Rattle.ndef_piece.specs.Whole.{IsSplit}
use Rattle.ndef_c.specs.Walks.{BeginsWithRun, Lies}
use Rattle.ndef_c.proofs.PieceParts.{part_of, piece_there}
use Rattle.ndef_c.proofs.Places.{ends, shown_parts, byte_is_bit, lie_in, id_is, none_beyond}
use Rattle.ndef_c.proofs.record.record_at.Goals as goal

pub returns-then-at-bytes-clause-none : goal.returns-then-at-bytes-clause-none
returns-then-at-bytes-clause-none c = none_beyond c.args.bytes.now c.args.at (omega arith)

pub returns-in_default-clause-none : goal.returns-in_default-clause-none
returns-in_default-clause-none c = λ h. c.in_default.ensures.none (h.0, h.1, subst (BeginsWithRun h.0 h.1) (sym c.split_at.ensures.back) h.2)

pub returns-clause-some : goal.returns-clause-some
returns-clause-some c =
    let bytes = c.args.bytes.now in
    let run = c.in-Some.found in
    let f = run.first in
    let x = c.in-Some.ensures.some in
    let following = c.split_at.ensures.back in
    let within : c.args.at ≤ length bytes = omega arith in
    let e = ends x.run bytes c.split_at.result.1.now run.rest.now c.args.at within following x.begins in
    let p = lie_in f.header f.kind.now f.id.now f.payload.now f.rest.now bytes
    (shown_parts f.header _ f.kind.now f.id.now f.payload.now f.rest.now c.split_at.result.1.now bytes c.args.at following x.no_id x.split) in
    let size = part_of bytes f.rest.now f.payload.now in
    let t = piece_there f.header _ f.kind.now f.id.now f.payload.now f.rest.now c.split_at.result.1.now bytes c.args.at size within following x.no_id x.split refl refl in
    let kind : f.kind.now ≡ (run_record x.run).kind = ap (λ q. q.kind) x.initial in
    let id : f.id.now ≡ (run_record x.run).id = sym (id_is (is_set 3 f.header) f.id.now x.no_id) ∙ ap (λ q. unwrap_or q.id []) x.initial in
    let part : f.payload.now ≡ x.run.initial.payload = ap (λ q. q.payload) x.initial in
    record {
      run = x.run;
      begins = subst (BeginsWithRun x.run (drop (length bytes - length run.rest.now) bytes)) following (subst (λ y. BeginsWithRun x.run y c.split_at.result.1.now) (sym e.rest_is) x.begins);
      at_is = refl;
      onward = e.onward;
      within = omega arith;
      tnf = c.from.ensures ∙ c.code.ensures.value ∙ ap code (c.tnf.ensures ∙ ap (λ q. tnf_of q.tnf) x.initial);
      kind = subst (Lies bytes _ _) kind p.kind_lies;
      id = subst (Lies bytes _ _) id p.id_lies;
      part = subst (Lies bytes _ _) part p.payload_lies;
      first = (t.is.short, subst (λ q. IsSplit q t.is.short (drop (size.at + size.length) bytes) (drop c.args.at bytes)) x.initial t.is.split);
      id_after = p.id_after;
      part_after = p.payload_after;
      payload = x.payload;
      pieces_are = x.pieces_are;
      last = c.from-2.ensures ∙ byte_is_bit run.last ∙ ap bit x.last;
    }
