use Rattle.std.proofs.Common.{◌≡◌, ◌+◌, arith, subst}
use Rattle.ndef_c.specs.Fields.{GivesWith}
use Rattle.ndef_c.specs.Checks.{limits_of}
use Rattle.ndef_c.specs.declared.status.TheConstants.{OK}
use Rattle.ndef_c.proofs.FieldChecks.{place_within}
use Rattle.ndef_c.proofs.fields.ndef_next_field.Goals as goal

pub returns-clause-next : goal.returns-clause-next
returns-clause-next c = λ n.
    let g = c.ndef_field_at.ensures.field n in
    let place = c.saturating_add-place.result in
    let sum = c.args.field.now.at + c.args.field.now.length in
    let least = c.saturating_add-place.ensures in
    let within = place_within (limits_of c.args.limits.now) c.args.bytes.now g.checked c.ndef_field_at.new.refusal g.are.checks in
    record {
      checked = g.checked;
      reported = g.reported;
      are = g.are;
      within = λ l.
          let same : place ≡ sum = omega (arith, least, within, l) in
          subst (λ p. (c.ndef_field_at.result ≡ OK) × GivesWith g.reported p c.ndef_field_at.new.out) same (g.within (omega (arith, same, l)));
      ended = λ l. g.ended (omega (arith, least, within, l));
      refused = λ l. g.refused (omega (arith, least, within, l));
    }
