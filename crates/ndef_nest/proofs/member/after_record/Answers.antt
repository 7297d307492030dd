use Rattle.std.proofs.Common.{◌∙◌, ap, subst}
use Rattle.ndef_format.specs.HeadReasons.{is_set}
use Rattle.ndef_format.specs.Positions.{IsConsistentAt}
use Rattle.ndef_piece.specs.Whole.{piece_of}
use Rattle.ndef_format.specs.Nested.{kind_in}
use Rattle.ndef_nest.specs.Machine.Demands.{Tail, Later}
use Rattle.ndef_nest.proofs.Members.{record_from}
use Rattle.ndef_nest.proofs.member.after_record.Goals as goal

pub returns : goal.returns
returns c others e tail =
    let x = c.args.context in
    let p = c.in_ok-piece.piece in
    let k = c.kind-kind.result in
    let stands = subst (λ s. IsConsistentAt s (piece_of p.header p.kind.now p.id.now p.payload.now)) c.spot.ensures (c.is_record_at.ensures.stands c.if-not-is_record_at.false) in
    let kind = c.kind-kind.ensures ∙ ap (λ t. kind_in x.table t p.kind.now) c.tnf.ensures in
    let more = subst (λ d. Tail (Later x.profile x.table others) (is_set 6 p.header) d p.rest.now) c.after.ensures (subst (λ b. Tail (Later x.profile x.table others) b c.after.result p.rest.now) c.is_last.ensures tail) in
    record_from c.heads_are_of_pieces.ensures.to_heads x.profile x.table others x.records c.args.first x.demand p.header p.kind.now p.id.now p.payload.now p.rest.now c.args.bytes.now k e
    c.in_ok-piece.ensures.piece stands kind (c.allows.ensures.0 c.if-not-allows.false) (c.has.ensures c.if-not-has.false) more
