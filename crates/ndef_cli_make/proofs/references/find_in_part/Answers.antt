use Rattle.std.proofs.Common.{◌≡◌, ◌∙◌, [], Some, None, ap, map, rules, sym}
use Rattle.std.specs.Prelude.{codes}
use Rattle.std.specs.List.{find, flat_map}
use Rattle.clap.specs.Words.{found_of, rows_of}
use Rattle.ndef_cli_make.specs.Asked.{asked_part}
use Rattle.ndef_cli_make.specs.Options.{subject_named}
use Rattle.ndef_cli_make.specs.References.{is_missing, references_for, references_in, references_of}
use Rattle.ndef_cli_make.specs.declared.options.Subject.TheVariants.{Handover}
use Rattle.ndef_cli_make.proofs.Words.{words_given}
use Rattle.ndef_cli_make.proofs.references.find_in_part.Goals as goal

pub returns-in-Some : goal.returns-in-Some
returns-in-Some c =
    let said = c.args.said.now in
    let found = found_of said.matches in
    let subject : subject_named said.name.now ≡ Some Handover = search rules in
    let is : references_of (asked_part said) ≡ flat_map references_in (map (λ word. word.now) c.in-Some.words.now) =
    ap (λ o. references_for o (rows_of found)) subject ∙ ap (flat_map references_in) (sym (words_given found (codes "carrier") (Some c.in-Some.words) c.in-Some.ensures)) in
    rw is c.find_in_words.ensures

pub returns-in-None : goal.returns-in-None
returns-in-None c =
    let said = c.args.said.now in
    let found = found_of said.matches in
    let subject : subject_named said.name.now ≡ Some Handover = search rules in
    let is : references_of (asked_part said) ≡ flat_map references_in [] =
    ap (λ o. references_for o (rows_of found)) subject ∙ ap (flat_map references_in) (sym (words_given found (codes "carrier") None c.in-None.ensures)) in
    ap (find (is_missing c.args.records.now)) is
