use Rattle.std.proofs.Common.{◌≡◌, ◌∙◌, ◌∷◌, ◌+◌, ◌≤◌, [], ℕ, List, ap, length, rules, subst, arith}
use Rattle.std.specs.List.{fold}
use Rattle.std.specs.Option.{option_map_or}
use Rattle.ndef_diagnostics.specs.Dumps.{digits_after, lines_of, next_line, source_of}
use Rattle.ndef_diagnostics.specs.Filled.{nothing, put}
use Rattle.ndef_diagnostics.specs.declared.dump_digits.Spelled.{Spelled}
use Rattle.ndef_diagnostics.proofs.Filled.{more_counted, more_same}
use Rattle.ndef_diagnostics.proofs.dump.put_lines.Goals as goal

pub loop-spelled-preserved : goal.loop-spelled-preserved
loop-spelled-preserved c =
    let form = c.args.form in
    let before = c.loop-spelled.before.now in
    let line = c.loop-spelled.line.now in
    let rest : List (List ℕ) = option_map_or (λ more. lines_of more.now) c.loop-spelled.rest [] in
    let f : Spelled × List ℕ = (c.loop-spelled.spelled, c.loop-spelled.out) in
    let g : Spelled × List ℕ = (c.put_times-spelled.result, c.put_times-spelled.new.out) in
    let from : (c.in_ok-count.count, c.in_ok-count.source.now) ≡ source_of form before line (next_line rest) = search rules in
    let same = more_same form before line rest f g c.in_ok-count.count c.in_ok-count.source.now from c.put_times-spelled.ensures
    ∙ c.loop-spelled.invariant.same in
    let counted = more_counted form before line rest f g c.in_ok-count.count c.in_ok-count.source.now from c.put_times-spelled.ensures
    c.loop-spelled.invariant.count in
    let short = c.loop-spelled.invariant.short in
    let next : rest ≡ c.cut_line-in-loop-spelled.result.0.now
    ∷ option_map_or (λ more. lines_of more.now) c.cut_line-in-loop-spelled.result.1 [] =
    ap (λ r. option_map_or (λ more. lines_of more.now) r []) c.in-Some.is ∙ c.cut_line-in-loop-spelled.ensures.split in
    record {
      same = subst (λ t. fold put g (digits_after form line t) ≡ fold put (nothing, c.args.out.now) (digits_after form [] (lines_of c.args.text.now))) next same;
      count = counted.0;
      short = subst (λ t. g.0.count + length (digits_after form line t) ≤ length (digits_after form [] (lines_of c.args.text.now))) next
          (let more = counted.1 in omega (arith, more, short));
    }
