use Rattle.std.proofs.Common.{rules, length, take, sym}
use Rattle.std.proofs.lemmas.List.{take_all}
use Rattle.std.proofs.lemmas.List.Elements.{All-more, All-same}
use Rattle.ndef_c.specs.AlternativeWrites.{MayBeReference}
use Rattle.ndef_c.proofs.alternative_writing.are_references.Goals as goal

pub loop-part-preserved : goal.loop-part-preserved
loop-part-preserved c =
    All-more (MayBeReference (length c.args.bytes.now)) c.args.parts.now c.loop-part.part-index (record { at = 0; length = 0 }) c.loop-part-test.true c.loop-part.invariant
    (c.is_reference.ensures.0 (search (rules, c.if-not-is_reference.false)))

pub returns : goal.returns
returns c =
    let parts = c.args.parts.now in
    let all = take_all c.loop-part.part-index parts c.loop-part-test.false in
    (λ _. All-same (MayBeReference (length c.args.bytes.now)) parts (take c.loop-part.part-index parts) (sym all) c.loop-part.invariant, λ _. search rules)
