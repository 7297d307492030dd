use Rattle.std.proofs.Common.{rules, sym, refl, true, false, Bool, ◌≡◌, ◌∙◌}
use denote.Enum.Bare.{same_true, same_false}
use Rattle.ndef_format.specs.contracts.kind.Kind.{the_type}
use Rattle.ndef_types.proofs.contents.is_kind.Goals as goal

not_false : (b : Bool) → (b ≡ false → ⊥) → b ≡ true
not_false true h = refl
not_false false h = absurd (h refl)

pub returns : goal.returns
returns c =
    let e = c.eq.ensures in
    (λ h. same_true the_type (search rules) c.args.kind c.args.other (sym e ∙ h), λ p. not_false c.eq.result (λ f. same_false the_type c.args.kind c.args.other (sym e ∙ f) p))
