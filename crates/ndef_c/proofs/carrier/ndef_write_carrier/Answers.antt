use Rattle.std.proofs.Common.{length-append, refl, arith}
use Rattle.ndef_types.specs.Values.{carrier_payload}
use Rattle.ndef_c.specs.Carriers.{carrier_of}
use Rattle.ndef_c.proofs.carrier.ndef_write_carrier.Goals as goal

pub returns-clause-payload : goal.returns-clause-payload
returns-clause-payload c = λ may.
    let a = c.args in
    let k = length-append a.kind.now a.carried.now in
    let fits = may.fits in
    record {
      payload = carrier_payload (carrier_of a.format a.kind.now a.carried.now);
      is = refl;
      short = omega (arith, k, fits);
      gives = c.give_parts.ensures;
    }
