use Rattle.std.proofs.Common.{arith, sym, ap, ◌∙◌, Some}
use Rattle.std.proofs.lemmas.Option.{slice_get_past}
use Rattle.std.proofs.Common.{get_or}
use Rattle.ndef_types.specs.Values.{StandForNames}
use Rattle.ndef_types.proofs.AlternativeLemmas.{auxiliary_count, auxiliary_stand, name_fits, name_is}
use Rattle.ndef_types.proofs.alternative_parts.AlternativeParts.auxiliary.Goals as goal

pub returns-then-index-from : goal.returns-then-index-from
returns-then-index-from c = λ v h.
    sym (slice_get_past v.auxiliary c.args.index (omega (arith, c.if-index-from.true, c.from.ensures, auxiliary_count c.after_reference-octets.result.now v.auxiliary v.rest (c.after_reference-octets.ensures.stand v h))))

pub split_counted-requires : goal.split_counted-requires
split_counted-requires c = name_fits _ _ (omega (arith, c.if-index-from.false, c.from.ensures)) c.skip-left.ensures.references

pub returns : goal.returns
returns c = λ v h.
    let octets = c.after_reference-octets.result.now in
    let names : StandForNames (get_or octets 0 0) c.after_first.result.now v.auxiliary v.rest = rw c.after_first.ensures (auxiliary_stand octets v.auxiliary v.rest (c.after_reference-octets.ensures.stand v h)) in
    ap Some c.split_counted.ensures.field
    ∙ sym (name_is v.auxiliary c.args.index _ c.skip-left.result.now v.rest (omega (arith, c.if-index-from.false, c.from.ensures)) (c.skip-left.ensures.left v.auxiliary v.rest names))
