use Rattle.std.proofs.Common.{map, take, string_bytes}
use Rattle.std.specs.Prelude.{option_map}
use Rattle.ndef_cli_make.specs.Asked.{asked_part}
use Rattle.ndef_cli_make.specs.CommandLine.{IsMaker}
use Rattle.ndef_cli_make.specs.Editing.{AskFor, edit_map}
use Rattle.ndef_cli_make.proofs.editing.parse_edits.Given as goal

abbrev pub invariant-loop-part : goal.invariant-loop-part
invariant-loop-part l = IsMaker l.command
    × AskFor (option_map (λ name. name.now) l.file) (map (λ part. map string_bytes part.now) (take l.part-index l.parts)) (map (edit_map asked_part) l.edits.items)
