use Rattle.std.proofs.Common.{length, ap, arith}
use Rattle.ndef_c.proofs.Counted.{alternative_short}
use Rattle.ndef_c.proofs.PosterSaid.{none_by}
use Rattle.ndef_c.proofs.handover_parts.alternative_made.Goals as goal

pub returns-clause-none : goal.returns-clause-none
returns-clause-none c =
    let own = c.in_ok-content.ensures in
    let short = alternative_short c.args.alternative.now.power c.args.bytes.now c.in_ok-own.own.now own.may in
    let n = ap length own.payload in
    none_by c.known_made.result (λ l m. omega (arith, l, short, n)) c.known_made.ensures.none
