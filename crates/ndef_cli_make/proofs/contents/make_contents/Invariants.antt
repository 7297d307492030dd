use Rattle.std.proofs.Common.{map, take}
use Rattle.clap.specs.Words.{found_of, rows_of}
use Rattle.ndef_cli_make.specs.Contents.{MakesContent, contents_by, option_of}
use Rattle.ndef_cli_make.specs.Records.{AreMadeBy}
use Rattle.ndef_cli_make.proofs.contents.make_contents.Given as goal

abbrev pub invariant-loop-option : goal.invariant-loop-option
invariant-loop-option l =
    AreMadeBy (MakesContent l.payload) (contents_by (map option_of (take l.option-index l.options)) (rows_of (found_of l.matches))) l.records.items
