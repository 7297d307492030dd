use Rattle.std.proofs.Common.{◌≡◌, ◌∷◌, sym, ◌∙◌, inr, subst}
use Rattle.ndef_types.specs.Prefixes.{IsLongest}
use Rattle.ndef_c.proofs.PosterSaid.{none_by}
use Rattle.ndef_c.proofs.poster_parts.uri_made.Goals as goal

pub returns-clause-none : goal.returns-clause-none
returns-clause-none c =
    let same : c.in-Ok.text.now ≡ c.args.uri.now = c.in-Ok.ensures.0 in
    let code = c.split-code.result.0 in
    let rest = c.split-code.result.1.now in
    none_by c.known_made.result (λ l. inr (code ∷ rest, (subst (λ u. IsLongest u code) same c.split-code.ensures.longest, sym same ∙ c.split-code.ensures.split), l)) c.known_made.ensures.none
