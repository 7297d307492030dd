use Rattle.std.proofs.Common.{◌∙◌, arith, sym}
use Rattle.std.proofs.lemmas.Bool.{ltb-true, ltb-false}
use Rattle.std.specs.Prelude.{length}
use Rattle.ndef_cli_make.specs.CarrierWords.{references_left}
use Rattle.ndef_cli_make.proofs.Short.{long_if, short_if}
use Rattle.ndef_cli_make.proofs.handover.check_references.Goals as goal

pub returns-then-not-are_short : goal.returns-then-not-are_short
returns-then-not-are_short c = long_if (references_left c.args.references) (sym c.are_short.ensures ∙ c.if-not-are_short.true)

pub returns-then-not-are_few : goal.returns-then-not-are_few
returns-then-not-are_few c =
    let l = ltb-false (length (references_left c.args.references)) 257 (sym c.are_few.ensures ∙ c.if-not-are_few.true) in
    (short_if (references_left c.args.references) (sym c.are_short.ensures ∙ c.if-not-are_short.false), omega (arith, l))

pub returns : goal.returns
returns c =
    let l = ltb-true (length (references_left c.args.references)) 257 (sym c.are_few.ensures ∙ c.if-not-are_few.false) in
    (short_if (references_left c.args.references) (sym c.are_short.ensures ∙ c.if-not-are_short.false), omega (arith, l))
