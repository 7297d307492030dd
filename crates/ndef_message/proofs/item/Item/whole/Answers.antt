use Rattle.std.proofs.Common.{sym, ◌∙◌, ap, Some}
use Rattle.ndef_message.proofs.SeenRuns.{only_one, not_only_one}
use Rattle.ndef_message.proofs.item.Item.whole.Goals as goal

pub returns-then-is_chunked : goal.returns-then-is_chunked
returns-then-is_chunked c =
    let f = c.first-piece.ensures in
    let chunked = ap (λ p. p.chunked) (sym f.shown) ∙ sym c.is_chunked.ensures ∙ c.if-is_chunked.true in
    not_only_one c.args.self.now.initial c.args.self.now.later f.read.follow chunked

pub returns-else-is_chunked : goal.returns-else-is_chunked
returns-else-is_chunked c =
    let f = c.first-piece.ensures in
    let one = ap (λ p. p.chunked) (sym f.shown) ∙ sym c.is_chunked.ensures ∙ c.if-is_chunked.false in
    ap (λ p. Some p.payload) f.shown ∙ only_one c.args.self.now.initial c.args.self.now.later f.read.follow one
