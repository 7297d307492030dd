use Rattle.std.proofs.Common.{inl, inr, refl, rules, subst, [], ◌∷◌}
use Rattle.std.specs.Prelude.{codes}
use Rattle.ndef_format.specs.Reasons.{NoReason}
use Rattle.ndef_format.specs.Records.{AreOctets}
use Rattle.ndef_format.specs.Refusals.{Refuses}
use Rattle.ndef_message.specs.Views.{IsViewOf}
use Rattle.ndef_cli_explain.specs.Outputs.{array_of, with_name}
use Rattle.ndef_cli_explain.proofs.OutputParts.{array_parts, pair_parts}
use Rattle.ndef_cli_explain.proofs.record_objects.push_records_member.Goals as goal

pub returns-in_ok-end-in-Ok : goal.returns-in_ok-end-in-Ok
returns-in_ok-end-in-Ok c =
    let puts = c.in_ok-push_record_objects-in-Ok.ensures in
    let message = c.in-Ok.message in
    let seen = subst (λ limits. IsViewOf (λ tnf name records profile. AreOctets) limits c.args.bytes.now message) c.widest.ensures c.in-Ok.ensures.message in (
      (codes "records", array_of puts.0) ∷ [],
      inl (message, puts.0, seen, puts.1, refl),
      search (
        array_parts (with_name c.args.out.now (codes "records")) puts.0,
        pair_parts c.args.out.now (codes "records", array_of puts.0),
        puts.2,
        c.in_ok-name-in-Ok.ensures,
        c.in_ok-begin-in-Ok.ensures,
        c.in_ok-end-in-Ok.ensures,
        rules,
      ),
    )

pub returns-in-Err : goal.returns-in-Err
returns-in-Err c =
    let refusal = c.in-Err.field-0 in
    let refused = subst (λ limits. Refuses (λ tnf name records profile. AreOctets) (λ tnf name records profile s b. NoReason) limits c.args.bytes.now refusal) c.widest.ensures c.in-Err.ensures.refused in
    ([], inr (refusal, refused, refl), refl)
