use Rattle.std.proofs.Common.{arith}
use Rattle.std.proofs.Common.{get_or}
use Rattle.ndef_types.specs.Values.{StandForNames}
use Rattle.ndef_types.proofs.AlternativeLemmas.{auxiliary_stand, no_name}
use Rattle.ndef_types.proofs.alternative_parts.AlternativeParts.rest.Goals as goal

pub returns : goal.returns
returns c = λ v h.
    let octets = c.after_reference-octets.result.now in
    let names : StandForNames (get_or octets 0 0) c.after_first.result.now v.auxiliary v.rest = rw c.after_first.ensures (auxiliary_stand octets v.auxiliary v.rest (c.after_reference-octets.ensures.stand v h)) in
    no_name _ c.skip.result.now v.rest _ (omega (arith, c.from.ensures)) (c.skip.ensures.left v.auxiliary v.rest names)
