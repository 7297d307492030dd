use Rattle.std.proofs.Common.{◌≡◌, ◌∙◌, sym, subst, ap, true, false, length}
use Rattle.std.specs.Prelude.{◌==◌}
use Rattle.ndef_types.specs.Links.{IsIndexOf}
use Rattle.ndef_tool.proofs.Carriers.{numbered}
use Rattle.ndef_tool.proofs.linking.index_of.Goals as goal

pub returns-clause-index : goal.returns-clause-index
returns-clause-index c =
    subst (IsIndexOf c.args.message.now c.args.id.now) (sym (c.copied.ensures ∙ c.get.ensures.value))
    (c.requires c.args.id.now (λ none. let t : true ≡ false = sym (c.is_empty.ensures ∙ ap (λ s. length s == 0) none) ∙ c.if-is_empty.false in cc))

pub returns-clause-number : goal.returns-clause-number
returns-clause-number c = numbered c.args.message.now c.len-records.ensures.items.few c.args.id.now c.copied.result (returns-clause-index c)
