use Rattle.std.proofs.Common.{◌≡◌, [], Err, get_or, rules}
use Rattle.std.specs.Borrow.{Bor}
use Rattle.clap.specs.Words.{Text}
use Rattle.ndef_cli_make.specs.References.{references_in}
use Rattle.ndef_cli_make.proofs.Found.{found_whole, none_more, unfound_at}
use Rattle.ndef_cli_make.proofs.Lists.{got_there}
use Rattle.ndef_cli_make.proofs.references.find_in_words.Goals as goal

abbrev missing : Bor Text
missing = record { ref_ptr = (0, 0); now = [] }

pub returns-in_err-find_in_word : goal.returns-in_err-find_in_word
returns-in_err-find_in_word c =
    let fault = c.in_err-find_in_word.field-0.0 in
    let words = c.args.words.now in
    let n = c.loop-word.word-index in
    let is : c.from_residual.result ≡ Err fault = search rules in
    rw is (unfound_at c.args.records.now references_in (λ word. word.now) words n (get_or words n missing) fault c.loop-word-test.true (got_there words n missing _ c.loop-word-test.true) c.loop-word.invariant c.in_err-find_in_word.ensures)

pub loop-word-preserved : goal.loop-word-preserved
loop-word-preserved c =
    let words = c.args.words.now in
    let n = c.loop-word.word-index in
    none_more c.args.records.now references_in (λ word. word.now) words n (get_or words n missing) c.loop-word-test.true (got_there words n missing _ c.loop-word-test.true) c.loop-word.invariant c.in_ok-find_in_word.ensures

pub returns : goal.returns
returns c = found_whole c.args.records.now references_in (λ word. word.now) c.args.words.now c.loop-word.word-index c.loop-word-test.false c.loop-word.invariant
