use Rattle.std.proofs.Common.{subst}
use Rattle.ndef_types.specs.Decoding.{RefusesPayload}
use Rattle.ndef_c.proofs.refusal.accepts.Goals as goal

pub returns-in-Ok-clause-payload : goal.returns-in-Ok-clause-payload
returns-in-Ok-clause-payload g c = λ _. subst (λ p. g.L.Language.payloads c.args.kind 65535 p c.args.payload.now) c.profile_of.ensures c.in-Ok.ensures.ok.1

pub returns-in-Err-clause-refused : goal.returns-in-Err-clause-refused
returns-in-Err-clause-refused g c = λ _.
    let l = g.L.Language in
    let found = c.in-Err.found in
    let e = c.refused_by.ensures in
    record {
      refusal = found;
      refused = subst (λ p. RefusesPayload (l.payloads c.args.kind 65535 p) (l.reasons c.args.kind 65535 p) c.args.payload.now found) c.profile_of.ensures c.in-Err.ensures.err;
      place = e.place;
      records = e.records;
      reason = e.reason;
    }
