use Rattle.std.proofs.Common.{◌-◌, length, subst, arith}
use Rattle.std.specs.List.{AllByRecursion}
use Rattle.ndef_value.specs.SliceLaws.{after_drop}
use Rattle.ndef_format.specs.Texts.{IsCodeOctet}
use Rattle.ndef_lang.proofs.AsciiLemmas.{ascii_ends}
use Rattle.ndef_lang.proofs.ascii.are_up_to_sixteen.Goals as goal

pub returns-then-are_eight : goal.returns-then-are_eight
returns-then-are_eight c h =
    let s = c.args.bytes.now in
    ascii_ends s (omega arith) (c.are_eight.ensures c.if-are_eight.true) (subst (AllByRecursion IsCodeOctet) (after_drop (length s - 8) s) (c.are_eight-then-are_eight.ensures h))
