use Rattle.std.proofs.Common.{◌≡◌, ◌∷◌, sym, ◌∙◌, inl, inr, subst}
use Rattle.ndef_types.specs.Prefixes.{IsLongest}
use Rattle.ndef_c.proofs.appending.ndef_append_uri.Goals as goal

pub returns-in_default-known_made-clause-bad : goal.returns-in_default-known_made-clause-bad
returns-in_default-known_made-clause-bad c = λ _.
    let same : c.in-Ok.text.now ≡ c.args.uri.now = c.in-Ok.ensures.0 in
    let code = c.split-code.result.0 in
    let rest = c.split-code.result.1.now in
    inr (inl (code ∷ rest, (subst (λ u. IsLongest u code) same c.split-code.ensures.longest, sym same ∙ c.split-code.ensures.split), c.in_default-known_made.ensures.none))
