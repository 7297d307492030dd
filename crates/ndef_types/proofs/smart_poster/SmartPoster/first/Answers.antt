use Rattle.std.proofs.Common.{subst}
use Rattle.std.specs.Prelude.{option_map}
use Rattle.ndef_format.specs.declared.table.Table.TheVariants.{SmartPoster}
use Rattle.ndef_types.specs.Contents.{IsFirstOf, IsOfKind}
use Rattle.ndef_types.proofs.ContentsLemmas.{first_payload}
use Rattle.ndef_types.proofs.smart_poster.SmartPoster.first.Goals as goal

pub returns-clause-payload : goal.returns-clause-payload
returns-clause-payload c =
    first_payload (λ r. r.now) c.args.kind c.self.inside.message c.first_of.result c.self.invariant
    (subst (λ items. IsFirstOf (IsOfKind SmartPoster c.args.kind) items (option_map (λ r. r.now) c.first_of.result)) c.records.ensures.value c.first_of.ensures)
