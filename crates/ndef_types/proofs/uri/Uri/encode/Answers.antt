use Rattle.std.proofs.Common.{refl, sym, ◌∙◌, subst, arith}
use Rattle.ndef_types.specs.Prefixes.{IsLongest}
use Rattle.ndef_types.proofs.UriLaws.{too_long}
use Rattle.ndef_types.proofs.uri.Uri.encode.Goals as goal

pub returns-then-rest-ge-MOST-clause-too_long : goal.returns-then-rest-ge-MOST-clause-too_long
returns-then-rest-ge-MOST-clause-too_long c =
    let e = c.deref.ensures ∙ c.self.view_is in
    let l : IsLongest c.args.self.now c.split-code.result.0 = subst (λ s. IsLongest s c.split-code.result.0) e c.split-code.ensures.longest in
    (λ _. too_long c.args.self.now c.split-code.result.1.now c.split-code.result.0 l (sym e ∙ c.split-code.ensures.split) (omega (arith, c.if-rest-ge-MOST.true)), λ _. refl)
