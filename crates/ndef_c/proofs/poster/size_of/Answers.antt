use Rattle.std.proofs.Common.{None, Some, length, refl, sym, ◌∙◌, ap}
use Rattle.std.specs.Int.{w32, from_be_bytes}
use Rattle.ndef_format.specs.declared.kind.Kind.TheVariants as kinds
use Rattle.ndef_c.proofs.Numbered.{number_there}
use Rattle.ndef_c.proofs.Posters.{first_has, in_pieces}
use Rattle.ndef_c.proofs.poster.size_of.Goals as goal

pub returns-in_default : goal.returns-in_default
returns-in_default c = λ profile items h. (None, c.in_default.ensures profile items (in_pieces profile items c.args.payload.now h), refl)

pub returns : goal.returns
returns c = λ profile items h.
    let f = c.in-Some.ensures profile items (in_pieces profile items c.args.payload.now h) in
    let size = ap length f.2.payload ∙ (first_has profile items c.args.payload.now kinds.Size f.0 h f.1).1 in
    (Some f.0, f.1, number_there kinds.Size _ _ (ap (λ n. Some n) (sym size)) c.number_in.ensures.none c.number_in.ensures.some ∙ ap (λ x. Some (from_be_bytes w32 x)) f.2.payload)
