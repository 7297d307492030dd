use Rattle.std.proofs.Common.{sym, subst, arith, take}
use Rattle.ndef_format.specs.declared.reason.Reason.TheVariants as reasons
use Rattle.ndef_value.specs.SliceLaws.{each_octet}
use Rattle.ndef_lang.specs.Language.{StepsFront}
use Rattle.ndef_lang.specs.Machine.Leaf.{CompletesLeaf, CompletesStage, InClass}
use Rattle.ndef_lang.specs.Machine.Utf16.{CompletesUtf16}
use Rattle.ndef_lang.proofs.StageLemmas.{any_front, field_steps, field_goes_on, text_goes}
use Rattle.ndef_lang.proofs.leaf.Leaf.take_front.Goals as goal

pub returns-in-Any-clause-front : goal.returns-in-Any-clause-front
returns-in-Any-clause-front c = rw (c.in-Field.is, c.in-Any.is, c.if-left-eq0.true) (any_front c.args.bytes.now (each_octet _ c.type_inv.bytes))

pub returns-in-Utf16-clause-front : goal.returns-in-Utf16-clause-front
returns-in-Utf16-clause-front c =
    subst (λ s. StepsFront (CompletesLeaf s) (CompletesUtf16 c.take_front-count.new.self) c.args.bytes.now c.take_front-count.result) (sym c.in-Utf16.is) c.take_front-count.ensures

pub returns-in-Utf16-clause-goes : goal.returns-in-Utf16-clause-goes
returns-in-Utf16-clause-goes c =
    rw c.in-Utf16.is (text_goes reasons.Utf16 (CompletesUtf16 c.in-Utf16.text) (CompletesUtf16 c.take_front-count.new.self) (take c.take_front-count.result c.args.bytes.now) c.take_front-count.ensures.stepped)

pub returns-else-not-has_all-clause-front : goal.returns-else-not-has_all-clause-front
returns-else-not-has_all-clause-front c =
    rw c.in-Field.is (field_steps (InClass c.in-Field.class) c.args.bytes.now c.min-count.result c.in-Field.left (CompletesStage c.in-Field.next) (c.has_all.ensures c.if-not-has_all.false) (omega (arith, c.min-count.ensures)) (omega (arith, c.min-count.ensures)))

pub returns-else-not-has_all-clause-goes : goal.returns-else-not-has_all-clause-goes
returns-else-not-has_all-clause-goes c =
    rw c.in-Field.is (field_goes_on c.in-Field.class c.args.bytes.now c.min-count.result c.in-Field.left c.in-Field.next (omega (arith, c.min-count.ensures)) (omega (arith, c.min-count.ensures)))

pub returns-in-Some-clause-front : goal.returns-in-Some-clause-front
returns-in-Some-clause-front c = rw (c.in-Field.is, c.in-Status.is, c.if-left-eq0.true) c.in-Some.ensures.front

pub returns-in-Some-clause-goes : goal.returns-in-Some-clause-goes
returns-in-Some-clause-goes c = rw (c.in-Field.is, c.in-Status.is, c.if-left-eq0.true) c.in-Some.ensures.goes
