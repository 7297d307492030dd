use Rattle.std.proofs.Common.{◌≡◌, ◌∙◌, [], ap}
use Rattle.std.specs.List.{fold}
use Rattle.ndef_diagnostics.specs.Dumps.{digits_after, digits_of, lines_of}
use Rattle.ndef_diagnostics.specs.Filled.{nothing, put}
use Rattle.ndef_diagnostics.proofs.Filled.{count_spelled, octets_spelled}
use Rattle.ndef_diagnostics.proofs.dump.read_digits.Goals as goal

pub returns-in-Some-clause-count : goal.returns-in-Some-clause-count
returns-in-Some-clause-count c =
    let filled : (c.in-Some.spelled, c.put_lines.new.out) ≡ fold put (nothing, c.args.out.now) (digits_of c.args.form c.args.text.now) =
    c.in-Some.ensures.some
    ∙ ap (λ t. fold put (nothing, c.args.out.now) (digits_after c.args.form [] (lines_of t))) c.text_part.ensures in
    c.octet_count.ensures
    ∙ count_spelled (digits_of c.args.form c.args.text.now) c.args.out.now c.put_lines.new.out c.in-Some.spelled filled

pub returns-in-Some-clause-octets : goal.returns-in-Some-clause-octets
returns-in-Some-clause-octets c = λ octets ok.
    let filled : (c.in-Some.spelled, c.put_lines.new.out) ≡ fold put (nothing, c.args.out.now) (digits_of c.args.form c.args.text.now) =
    c.in-Some.ensures.some
    ∙ ap (λ t. fold put (nothing, c.args.out.now) (digits_after c.args.form [] (lines_of t))) c.text_part.ensures in
    octets_spelled (digits_of c.args.form c.args.text.now) c.args.out.now c.put_lines.new.out octets c.in-Some.spelled filled ok
