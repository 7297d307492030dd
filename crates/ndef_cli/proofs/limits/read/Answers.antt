use Rattle.std.proofs.Common.{◌∙◌, ap}
use Rattle.std.specs.Option.{option_and_then}
use Rattle.std.specs.Str.Parse.{ParsesUnsigned, ExplainsUnsignedError, HasUnsignedDigitsIfOk}
use Rattle.clap.specs.Words.{found_of, one_text}
use Rattle.clap.proofs.WalkLemmas.{one_text-rows}
use Rattle.ndef_cli.specs.Options.{number_in}
use Rattle.ndef_cli.proofs.Numbers.{reads_number}
use Rattle.ndef_cli.proofs.limits.read.Goals as goal

pub returns : goal.returns
returns c =
    let f = found_of c.args.matches.now in
    reads_number (λ bs r. ParsesUnsigned 32 10 bs r × ExplainsUnsignedError 10 bs r × HasUnsignedDigitsIfOk bs r)
    (one_text f c.args.id.now) c.get_one.result c.get_one.ensures.none c.get_one.ensures.value (λ u x g. g.0)
    ∙ ap (option_and_then number_in) (one_text-rows f c.args.id.now)
