use Rattle.std.proofs.Common.{rules, arith}
use Rattle.ndef_types.specs.ContentsLaws.{no_uris}
use Rattle.ndef_types.proofs.smart_poster.SmartPoster.uri.Goals as goal

pub unreachable-requires : goal.unreachable-requires
unreachable-requires c = omega (arith, no_uris c.args.self.now c.in-None.ensures.first, c.first.ensures.contents.complete)

pub returns : goal.returns
returns c = search rules
