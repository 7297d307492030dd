use Rattle.std.proofs.Common.{◌≡◌, [], Err, get_or, rules}
use Rattle.std.specs.Borrow.{Bor}
use Rattle.clap.specs.Words.{Text}
use Rattle.ndef_cli_make.specs.Contents.{MakesContent}
use Rattle.ndef_cli_make.specs.declared.fault.Fault.TheVariants.{Memory}
use Rattle.ndef_cli_make.proofs.Lists.{got_there}
use Rattle.ndef_cli_make.proofs.Made.{kept_fails, kept_more, kept_whole, made_fails}
use Rattle.ndef_cli_make.proofs.contents.push_texts.Goals as goal

abbrev missing : Bor Text
missing = record { ref_ptr = (0, 0); now = [] }

pub returns-in_err-make_content : goal.returns-in_err-make_content
returns-in_err-make_content c =
    let fault = c.in_err-make_content.field-0.0 in
    let is : c.from_residual.result ≡ Err fault = search rules in
    let texts = c.args.texts.now in
    let n = c.loop-text.text-index in
    rw is (made_fails (MakesContent c.args.payload.now) (λ text. (c.args.property, text.now)) texts n (get_or texts n missing) _ fault c.loop-text-test.true (got_there texts n missing _ c.loop-text-test.true)
    c.loop-text.invariant.1 c.in_err-make_content.ensures)

pub returns-in_err-push : goal.returns-in_err-push
returns-in_err-push c =
    let is : c.from_residual-in_err-push.result ≡ Err Memory = search rules in
    let texts = c.args.texts.now in
    let n = c.loop-text.text-index in
    rw is (kept_fails (MakesContent c.args.payload.now) (λ text. (c.args.property, text.now)) texts n (get_or texts n missing) _ c.in_ok-make_content.field-0 c.loop-text-test.true
    (got_there texts n missing _ c.loop-text-test.true) c.loop-text.invariant.1 c.in_ok-make_content.ensures)

pub loop-text-preserved : goal.loop-text-preserved
loop-text-preserved c =
    let texts = c.args.texts.now in
    let n = c.loop-text.text-index in
    kept_more (MakesContent c.args.payload.now) (λ text. (c.args.property, text.now)) texts n (get_or texts n missing) c.args.records.now.items c.loop-text.records.items _ c.in_ok-make_content.field-0
    c.loop-text-test.true (got_there texts n missing _ c.loop-text-test.true) c.loop-text.invariant c.in_ok-make_content.ensures c.in_ok-push.ensures.items

pub returns : goal.returns
returns c =
    kept_whole (MakesContent c.args.payload.now) (λ text. (c.args.property, text.now)) c.args.texts.now c.loop-text.text-index c.args.records.now.items c.loop-text.records.items
    c.loop-text-test.false c.loop-text.invariant
