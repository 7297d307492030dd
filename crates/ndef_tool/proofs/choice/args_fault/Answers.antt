use Rattle.std.proofs.Common.{map, string_bytes}
use Rattle.ndef_cli.specs.OptionLaws.{fault_by}
use Rattle.ndef_tool.specs.CommandLine.{ndef_app}
use Rattle.ndef_tool.proofs.Chooses.{ndef_is_free}
use Rattle.ndef_tool.proofs.choice.args_fault.Goals as goal

pub returns : goal.returns
returns c =
    fault_by _ ndef_app (map string_bytes c.args.words.now) c.in-Err.error c.in-Ok.ensures.0 ndef_is_free c.in-Err.ensures.kinds
