use Rattle.std.proofs.Common.{subst, arith}
use Rattle.std.specs.List.{AllByRecursion}
use Rattle.ndef_value.specs.SliceLaws.{after_drop}
use Rattle.ndef_format.specs.Texts.{IsCodeOctet}
use Rattle.ndef_lang.specs.StepLaws.{rest_length}
use Rattle.ndef_lang.proofs.AsciiLemmas.{ascii_joined}
use Rattle.ndef_lang.proofs.ascii.are_many.Goals as goal

pub loop-rest-preserved : goal.loop-rest-preserved
loop-rest-preserved c =
    let s = c.loop-rest.rest.now in
    record {
      some = omega (arith, rest_length s 8);
      before = λ h. c.loop-rest.invariant.before (ascii_joined 8 s (c.are_eight.ensures c.if-not-are_eight.false) (subst (AllByRecursion IsCodeOctet) (after_drop 8 s) h));
    }
