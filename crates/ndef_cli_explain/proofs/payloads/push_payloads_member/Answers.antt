use Rattle.std.proofs.Common.{rules}
use Rattle.std.specs.Prelude.{codes}
use Rattle.ndef_cli_explain.specs.Outputs.{with_name}
use Rattle.ndef_cli_explain.specs.Payloads.{payload_objects, payloads_pair}
use Rattle.ndef_cli_explain.proofs.OutputParts.{array_parts, pair_parts}
use Rattle.ndef_cli_explain.proofs.payloads.push_payloads_member.Goals as goal

pub returns : goal.returns
returns c =
    let puts = c.in_ok-push_payloads.ensures in (
      puts.0,
      puts.1,
      search (array_parts (with_name c.args.out.now (codes "payloads")) (payload_objects puts.0), pair_parts c.args.out.now (payloads_pair puts.0), puts.2, c.in_ok-name.ensures, c.in_ok-begin.ensures, c.in_ok-end.ensures, rules),
    )
