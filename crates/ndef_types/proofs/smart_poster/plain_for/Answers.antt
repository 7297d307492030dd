use Rattle.std.proofs.Common.{rules, sym, subst}
use Rattle.ndef_format.specs.Nested.{HasContents}
use Rattle.ndef_format.specs.declared.table.Table.TheVariants.{SmartPoster}
use Rattle.ndef_types.proofs.PosterLemmas.{strict_is_plain}
use Rattle.ndef_types.proofs.smart_poster.plain_for.Goals as goal

pub returns-in-Strict : goal.returns-in-Strict
returns-in-Strict c = sym (strict_is_plain c.args.message (subst (λ p. HasContents SmartPoster p c.args.message) c.in-Strict.is c.requires))

pub returns-in-Standard : goal.returns-in-Standard
returns-in-Standard c = search rules
