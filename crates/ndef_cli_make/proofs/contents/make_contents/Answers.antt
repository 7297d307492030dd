use Rattle.std.proofs.Common.{◌≡◌, [], Err, get_or, rules}
use Rattle.clap.specs.Words.{found_of, rows_of}
use Rattle.ndef_cli_make.specs.declared.contents.Property.TheVariants.{Uri}
use Rattle.ndef_cli_make.specs.declared.contents.PropertyOption.{PropertyOption}
use Rattle.ndef_cli_make.proofs.Appended.{options_fail, options_more, options_whole}
use Rattle.ndef_cli_make.proofs.Lists.{got_there}
use Rattle.ndef_cli_make.proofs.contents.make_contents.Goals as goal

abbrev missing : PropertyOption
missing = record { property = Uri; id = record { ref_ptr = (0, 0); now = [] } }

pub returns-in_err-push_words : goal.returns-in_err-push_words
returns-in_err-push_words c =
    let fault = c.in_err-push_words.field-0.0 in
    let is : c.from_residual.result ≡ Err fault = search rules in
    let options = c.args.options.now in
    let n = c.loop-option.option-index in
    rw is (options_fail c.args.payload.now (rows_of (found_of c.args.matches.now)) options n (get_or options n missing) c.loop-option.records.items c.push_words.new.records.items fault c.loop-option-test.true (got_there options n missing _ c.loop-option-test.true)
    c.loop-option.invariant c.in_err-push_words.ensures)

pub loop-option-preserved : goal.loop-option-preserved
loop-option-preserved c =
    let options = c.args.options.now in
    let n = c.loop-option.option-index in
    options_more c.args.payload.now (rows_of (found_of c.args.matches.now)) options n (get_or options n missing) c.loop-option.records.items c.push_words.new.records.items c.loop-option-test.true (got_there options n missing _ c.loop-option-test.true)
    c.loop-option.invariant c.in_ok-push_words.ensures

pub returns : goal.returns
returns c = options_whole c.args.payload.now (rows_of (found_of c.args.matches.now)) c.args.options.now c.loop-option.option-index c.loop-option.records.items c.loop-option-test.false c.loop-option.invariant
