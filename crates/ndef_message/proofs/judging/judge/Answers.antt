use Rattle.std.proofs.Common.{false, sym, subst}
use Rattle.ndef_piece.specs.Walk.{start}
use Rattle.ndef_message.specs.Machine.Accepted.{AreTakenRecords}
use Rattle.ndef_message.specs.Machine.State.{numbers}
use Rattle.ndef_message.proofs.Accepting.{records_start}
use Rattle.ndef_message.proofs.judging.judge.Goals as goal

pub judge_from-requires : goal.judge_from-requires
judge_from-requires g c =
    let l = c.args.limits.now in
    let set = g.L.RecordLanguage.payloads in
    let input = c.args.input.now in
    subst (λ n. AreTakenRecords set l (numbers (start l)) input n c.none.result.place false) (sym c.none.ensures.taken)
    (subst (λ p. AreTakenRecords set l p input 0 c.none.result.place false) c.none.ensures.place (records_start set l c.none.result.place input))
