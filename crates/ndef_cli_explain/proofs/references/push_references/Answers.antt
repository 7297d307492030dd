use Rattle.std.proofs.Common.{◌≡◌, ◌∙◌, List, [], ◌∷◌, ap, map, refl, sym}
use Rattle.std.specs.Prelude.{codes}
use Rattle.ndef_types.specs.declared.link.Link.{Link}
use Rattle.ndef_cli_explain.specs.Outputs.{array_of, with_name, with_pairs, with_value}
use Rattle.ndef_cli_explain.specs.References.{reference_object, reference_pairs}
use Rattle.ndef_cli_explain.specs.declared.output.Output.{Output}
use Rattle.ndef_cli_explain.proofs.RecoverySteps.{on_ok}
use Rattle.ndef_cli_explain.proofs.OutputParts.{pair_parts}
use Rattle.ndef_cli_explain.proofs.references.push_references.Goals as goal

some : (links : List Link) (out : Output) → (links ≡ [] → ⊥)
    → with_value (with_name out (codes "references")) (array_of (map reference_object links)) ≡ with_pairs out (reference_pairs links)
some [] out h = absurd (h refl)
some (link ∷ links) out h = sym (pair_parts out (codes "references", array_of (map reference_object (link ∷ links))))

pub returns : goal.returns
returns c =
    on_ok (λ e.
    e ∙ ap (λ o. with_value o (array_of (map reference_object c.args.links.now))) c.in_ok-name.ensures
    ∙ some c.args.links.now c.args.out.now (λ none. let t = c.is_empty.ensures.1 none in let f = c.if-is_empty.false in cc))
    c.push_reference_array.result c.push_reference_array.ensures
