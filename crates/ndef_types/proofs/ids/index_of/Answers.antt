use Rattle.std.proofs.Common.{sym, subst, ◌∙◌}
use Rattle.ndef_types.specs.Links.{IsIndexOf}
use Rattle.ndef_types.proofs.ids.index_of.Goals as goal

pub returns : goal.returns
returns c = λ items found. subst (IsIndexOf items c.args.id.now) (sym (c.copied.ensures ∙ c.get.ensures.value)) (found c.args.id.now)
