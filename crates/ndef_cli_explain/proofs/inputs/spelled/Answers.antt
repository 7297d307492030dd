use Rattle.std.proofs.Common.{◌≡◌, ◌∙◌, Ok, ap, arith, drop, length, rules, sym}
use Rattle.std.proofs.lemmas.List.{take_at}
use Rattle.ndef_cli_explain.proofs.Dumps.{filled}
use Rattle.ndef_cli_explain.proofs.inputs.spelled.Goals as goal

pub returns : goal.returns
returns c =
    let old = c.as_mut_slice.result.now in
    let new = c.read_dump.new.out in
    let octets = c.in_ok-octets.octets in
    let given : length c.requires.0 ≡ c.args.count = c.requires.2 in
    let one = c.in_ok-octets.ensures.len in
    let two = c.as_mut_slice.ensures.len in
    let three = c.read_dump.auto.out in
    let same : length c.requires.0 ≡ length old = first_of (omega (arith, given, one, two), search rules) in
    let kept : length new ≡ octets.len = first_of (omega (arith, one, two, three), search rules) in
    filled c.args.text.now c.requires.0 old new c.requires.1 same c.read_dump.ensures.octets
    ∙ ap Ok (sym (take_at new (drop (length new) octets.items) octets.len kept))
