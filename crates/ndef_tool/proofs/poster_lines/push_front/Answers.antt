use Rattle.std.proofs.Common.{◌++◌, codes, decimal}
use Rattle.ndef_cli.specs.Quoting.{quoted}
use Rattle.ndef_tool.proofs.Lines.{on_ok, three_parts}
use Rattle.ndef_tool.proofs.poster_lines.push_front.Goals as goal

pub returns : goal.returns
returns c =
    on_ok c.push_counted-2.result c.push_counted-2.ensures
    (three_parts c.args.line.now (codes " poster records " ++ decimal c.args.records) (codes " uri ") (quoted c.args.uri.now) (codes " titles ") (decimal c.args.titles)
    _ _ _ c.in_ok-push_counted.ensures c.in_ok-push_named.ensures)
