use Rattle.std.proofs.Common.{rules, ◌≡◌, ◌∷◌, sym, ◌∙◌, inr, subst}
use Rattle.ndef_types.specs.Prefixes.{IsLongest}
use Rattle.ndef_c.proofs.uri.ndef_write_uri.Goals as goal

pub returns-clause-bad : goal.returns-clause-bad
returns-clause-bad c = λ e.
    let same : c.in-Ok.text.now ≡ c.args.uri.now = c.in-Ok.ensures.0 in
    let code = c.split-code.result.0 in
    let rest = c.split-code.result.1.now in
    inr (code ∷ rest, (subst (λ u. IsLongest u code) same c.split-code.ensures.longest, sym same ∙ c.split-code.ensures.split), c.give_content.ensures.bad.0 e)

pub returns-clause-payload : goal.returns-clause-payload
returns-clause-payload c = search rules
