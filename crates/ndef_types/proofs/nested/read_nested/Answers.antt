use Rattle.std.proofs.Common.{subst, sym, map, Some, ◌≡◌, ◌∙◌}
use Rattle.ndef_format.specs.Messages.{run_record}
use Rattle.ndef_format.specs.Nested.{HasContents, Nested}
use Rattle.ndef_format.specs.declared.table.Table.{Table}
use Rattle.ndef_types.specs.Contents.{StandsForMessage}
use Rattle.ndef_types.proofs.TextLemmas.{if_ok}
use Rattle.ndef_types.proofs.nested.read_nested.Goals as goal

pub returns-clause-stands : goal.returns-clause-stands
returns-clause-stands c =
    let h = c.requires.1 in
    let q = (c.view_nested.ensures c.requires.0 h.0 h.1 h.2).1 in
    if_ok (λ m. m ≡ map run_record c.view_nested.result.runs) (λ m. StandsForMessage c.args.profile c.args.bytes.now (Some m))
    (λ m e. subst (λ items. StandsForMessage c.args.profile c.args.bytes.now (Some items)) (sym (e ∙ q)) (h.0, h.2.spelling)) c.to_message.result c.to_message.ensures

pub returns-clause-contents : goal.returns-clause-contents
returns-clause-contents c =
    if_ok (λ m. m ≡ map run_record c.view_nested.result.runs) (λ m. (table : Table) → Nested table 65535 c.args.profile c.args.bytes.now → HasContents table c.args.profile m)
    (λ m e table h. subst (HasContents table c.args.profile) (sym (e ∙ (c.view_nested.ensures table h.0 h.1 h.2).1)) h.2.contents) c.to_message.result c.to_message.ensures
