use Rattle.std.proofs.Common.{arith}
use Rattle.ndef_format.specs.Texts.{is_wide, code_length}
use Rattle.ndef_lang.specs.declared.leaf.Stage.TheVariants as stages
use Rattle.ndef_lang.proofs.StageLemmas.{code_goes, plain_goes}
use Rattle.ndef_lang.specs.Machine.LeafLaws.{coded_text}
use Rattle.ndef_lang.proofs.leaf.Stage.field_after.Goals as goal

pub returns-in-Status-clause-future : goal.returns-in-Status-clause-future
returns-in-Status-clause-future c may r =
    let f = coded_text (is_wide c.args.octet) (code_length c.args.octet) r in
    rw (c.in-Status.is, c.from.ensures, c.text.ensures) (λ x. (omega arith, rw c.in-Status.is at may, f.0 x), λ x. f.1 x.2)

pub returns-in-Status-clause-goes : goal.returns-in-Status-clause-goes
returns-in-Status-clause-goes c may u b reason = rw (c.in-Status.is, c.from.ensures, c.text.ensures) (code_goes (code_length c.args.octet) (is_wide c.args.octet) u b reason)

pub returns-in-CarrierKindLength-clause-goes : goal.returns-in-CarrierKindLength-clause-goes
returns-in-CarrierKindLength-clause-goes c may = rw (c.in-CarrierKindLength.is, c.field-in-CarrierKindLength.ensures) (plain_goes c.args.octet stages.Any (λ u b reason. (λ h. h, λ h. h)))

pub returns-in-ReferenceLength-clause-goes : goal.returns-in-ReferenceLength-clause-goes
returns-in-ReferenceLength-clause-goes c may = rw (c.in-ReferenceLength.is, c.field-in-ReferenceLength.ensures) (plain_goes c.args.octet stages.AuxiliaryCount (λ u b reason. (λ h. h, λ h. h)))

pub returns-else-count-eq0-clause-goes : goal.returns-else-count-eq0-clause-goes
returns-else-count-eq0-clause-goes c may = rw (c.in-References.is, c.field-else-count-eq0.ensures) (plain_goes c.args.octet (stages.References _) (λ u b reason. (λ h. h, λ h. h)))
