use Rattle.std.proofs.Common.{◌≡◌, string_bytes, sym, rules, tests, true, false}
use Rattle.std.specs.Str.{bytes_eq}
use Rattle.ndef_cli_make.proofs.Lists.{any_at, any_not}
use Rattle.ndef_cli_make.proofs.parts.has_word.Goals as goal

pub returns-then-eq : goal.returns-then-eq
returns-then-eq c =
    let is : bytes_eq (string_bytes c.word-item.result) c.args.id.now ≡ true = search (rules, tests) in
    sym (any_at (λ word. bytes_eq word c.args.id.now) string_bytes c.args.words.now c.loop-word.word-index c.word-item.result c.loop-word-test.true c.word-item.is is)

pub loop-word-preserved : goal.loop-word-preserved
loop-word-preserved c =
    let is : bytes_eq (string_bytes c.word-item.result) c.args.id.now ≡ false = search (rules, tests) in
    any_not (λ word. bytes_eq word c.args.id.now) string_bytes c.args.words.now c.loop-word.word-index c.word-item.result c.loop-word-test.true c.word-item.is is c.loop-word.invariant
