use Rattle.std.proofs.Common.{◌∷◌, [], ◌-◌, ◌∙◌, length, refl, subst, sym, take}
use Rattle.ndef_piece.specs.Walk.{start}
use Rattle.ndef_message.specs.Machine.Accepted.{BeginsWith, EndsRecords, record_of}
use Rattle.ndef_message.proofs.Accepting.{one_record}
use Rattle.ndef_message.proofs.LoneRecords.{message_of}
use Rattle.ndef_message.proofs.accepted.lone_record.Goals as goal

pub returns-clause-message : goal.returns-clause-message
returns-clause-message g c =
    let limits = c.args.limits.now in
    let set = g.L.RecordLanguage.payloads in
    let bytes = c.args.bytes.now in
    let w = c.in_ok-piece.piece in
    let found = c.in_ok-piece.ensures in
    let is = c.is_record.ensures in
    let yes = c.if-not-is_record.false in
    let taken = length bytes - length w.rest.now in
    let begins : BeginsWith set limits c.start.result bytes w = record { outer = is.outer yes; split = found.piece; no_id = found.no_id; stands = is.stands yes; one = is.one yes; member = is.member yes } in
    let ends = one_record set limits c.start.result bytes w taken begins refl (start limits) c.start.ensures refl refl in
    let last = sym c.is_last.ensures ∙ c.if-not-is_last.false in
    let all = subst (λ last. EndsRecords set limits (start limits) (record_of w ∷ []) (limits.records - 1) last (take taken bytes)) last ends in
    let walks = c.messages_are_walks.ensures in
    (record_of w ∷ [], message_of walks.messages walks.cut set limits c.format_laws.ensures.range (record_of w ∷ []) (limits.records - 1) (take taken bytes) all, refl)
