use Rattle.std.proofs.Common.{◌++◌, length, get_or, refl, rules, ◌∙◌, ap, arith}
use Rattle.ndef_value.specs.SliceLaws.{rest_from}
use Rattle.ndef_c.proofs.Prefixed.{short_prefix, stands_for}
use Rattle.ndef_c.proofs.uri.ndef_uri.Goals as goal

pub give_parts-requires-clause-second : goal.give_parts-requires-clause-second
give_parts-requires-clause-second c =
    let n = short_prefix (get_or c.args.payload.now 0 0) in
    let e = ap length (c.as_bytes.ensures.value ∙ c.prefix.ensures) in
    omega (arith, n, e)

pub returns-clause-uri : goal.returns-clause-uri
returns-clause-uri c = λ _ _. record {
  in_set = c.accepts.ensures.payload (search (rules, c.if-not-accepts.false));
  short = c.accepts.ensures.short (search (rules, c.if-not-accepts.false));
  uri = c.as_bytes.result.now ++ rest_from 1 c.args.payload.now;
  stands = stands_for c.args.payload.now c.as_bytes.result.now _ c.in-len1-up.len_at_least (c.as_bytes.ensures.value ∙ c.prefix.ensures) refl;
  gives = c.give_parts.ensures;
}
