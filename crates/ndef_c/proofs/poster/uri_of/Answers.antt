use Rattle.std.proofs.Common.{arith}
use Rattle.ndef_types.specs.ContentsLaws.{no_uris}
use Rattle.ndef_c.proofs.Posters.{in_pieces}
use Rattle.ndef_c.proofs.poster.uri_of.Goals as goal

pub unreachable-requires : goal.unreachable-requires
unreachable-requires c =
    let h = c.requires.2 in
    let none = no_uris c.requires.1 (c.in-None.ensures c.requires.0 c.requires.1 (in_pieces _ _ _ h)) in
    let one = h.1.contents.complete in
    omega (arith, none, one)

pub returns : goal.returns
returns c = λ profile items h. c.in-Some.ensures profile items (in_pieces profile items c.args.payload.now h)
