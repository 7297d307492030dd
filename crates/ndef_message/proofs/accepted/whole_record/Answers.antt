use Rattle.ndef_message.proofs.accepted.whole_record.Goals as goal

pub returns : goal.returns
returns g c =
    let is = c.is_record.ensures in
    let yes = c.if-not-is_record.false in
    let found = c.in_ok-piece.ensures in
    record { outer = is.outer yes; split = found.piece; no_id = found.no_id; stands = is.stands yes; one = is.one yes; member = is.member yes }
