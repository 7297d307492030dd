use Rattle.std.proofs.Common.{None, Some, get_or, length, refl, ◌∙◌, ap, arith}
use Rattle.ndef_format.specs.declared.kind.Kind.TheVariants as kinds
use Rattle.ndef_types.specs.Posters.{action_of}
use Rattle.ndef_c.proofs.Posters.{first_has, in_pieces}
use Rattle.ndef_c.proofs.poster.action_of.Goals as goal

pub returns-in_default : goal.returns-in_default
returns-in_default c = λ profile items h. (None, c.in_default.ensures profile items (in_pieces profile items c.args.payload.now h), refl)

pub bounds-found-0 : goal.bounds-found-0
bounds-found-0 c =
    let h = c.requires.2 in
    let f = c.in-Some.ensures c.requires.0 c.requires.1 (in_pieces _ _ _ h) in
    let one = (first_has c.requires.0 c.requires.1 c.args.payload.now kinds.Action f.0 h f.1).1 in
    let n = ap length f.2.payload in
    omega (arith, one, n)

pub returns : goal.returns
returns c = λ profile items h.
    let f = c.in-Some.ensures profile items (in_pieces profile items c.args.payload.now h) in
    (Some f.0, f.1, ap (λ x. Some (action_of x)) (c.from.ensures ∙ ap (λ s. get_or s 0 0) f.2.payload))
