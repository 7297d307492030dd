use Rattle.std.proofs.Common.{sym, subst}
use Rattle.ndef_format.specs.declared.profile.Profile.TheVariants.{Strict}
use Rattle.ndef_format.specs.Nested.{HasContents}
use Rattle.ndef_format.specs.declared.table.Table.TheVariants.{SmartPoster}
use Rattle.ndef_types.proofs.PosterLemmas.{plain_is_strict}
use Rattle.ndef_types.proofs.smart_poster.read_poster.Goals as goal

pub plain_for-requires : goal.plain_for-requires
plain_for-requires c = c.in_ok-message.ensures.contents SmartPoster c.requires

pub invariant_of-result : goal.invariant_of-result
invariant_of-result c =
    subst (HasContents SmartPoster Strict) (sym c.in_ok-message-2.ensures) (plain_is_strict c.args.profile c.in_ok-message.message (c.in_ok-message.ensures.contents SmartPoster c.requires))

pub returns : goal.returns
returns c = (c.in_ok-message.ensures.stands.0, c.in_ok-message.message, c.in_ok-message.ensures.stands.1, c.in_ok-message-2.ensures)
