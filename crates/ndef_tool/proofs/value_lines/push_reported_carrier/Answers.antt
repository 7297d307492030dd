use Rattle.std.proofs.Common.{◌≡◌, ◌++◌, codes, decimal}
use Rattle.ndef_cli.specs.Quoting.{quoted}
use Rattle.ndef_tool.proofs.Lines.{on_ok, three_parts}
use Rattle.ndef_tool.proofs.value_lines.push_reported_carrier.Goals as goal

pub returns : goal.returns
returns c =
    let format = codes " carrier format " ++ decimal c.args.carrier.now.format in
    let kind = quoted c.args.carrier.now.kind in
    let begun : c.push_counted.new.line ≡ c.args.line.now ++ format = rw (c.from.ensures, c.format.ensures.value) at c.in_ok-push_counted.ensures in
    let named : c.push_named.new.line ≡ c.push_counted.new.line ++ (codes " type " ++ kind) = rw (c.as_slice.ensures.value, c.kind.ensures.value) at c.in_ok-push_named.ensures in
    on_ok c.push_counted-2.result c.push_counted-2.ensures
    (λ e. three_parts c.args.line.now format (codes " type ") kind (codes " data ") _ _ _ _ begun named (rw c.carried.ensures.value at e))
