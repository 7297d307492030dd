use Rattle.std.proofs.Common.{refl, ◌∙◌, ap}
use Rattle.ndef_format.specs.HeadReasons.{least_from}
use Rattle.ndef_piece.specs.Ranges.{length_front}
use Rattle.ndef_format.specs.Records.{tnf_of}
use Rattle.ndef_piece.proofs.ReadBack.{read_back}
use Rattle.ndef_piece.proofs.head.head_of.Goals as goal

pub returns : goal.returns
returns c = λ h l e. read_back h c.args.taken.now l e _ _ _ _ _ _ _ _ c.is_set.ensures c.is_set-2.ensures c.is_set-3.ensures c.is_set-4.ensures (c.tnf_of.ensures ∙ ap tnf_of c.tnf_number.ensures) refl
    (c.least_and_greatest-payload_length.ensures.least ∙ ap (least_from c.width.result) c.length_front.ensures ∙ ap (λ w. least_from w (length_front c.args.taken.now)) c.width.ensures) c.id_length_of.ensures
