use Rattle.std.proofs.Common.{List, [], append-nil, map, subst, sym, Ok, Some, None}
use Rattle.clap.specs.Words.{Text, found_of}
use Rattle.ndef_cli_make.specs.Contents.{Content, OnMade}
use Rattle.ndef_cli_make.proofs.Lists.{map_twice}
use Rattle.ndef_cli_make.proofs.Words.{words_given}
use Rattle.ndef_cli_make.proofs.contents.push_words.Goals as goal

pub returns-in-Some : goal.returns-in-Some
returns-in-Some c =
    let property = c.args.wanted.property in
    let texts = c.in-Some.texts.now in
    subst (λ (words : List Text). OnMade c.args.payload.now (map (λ word. (property, word)) words) c.args.records.now.items c.push_texts.new.records.items c.push_texts.result)
    (words_given (found_of c.args.matches.now) c.args.wanted.id.now (Some c.in-Some.texts) c.in-Some.ensures)
    (subst (λ (contents : List Content). OnMade c.args.payload.now contents c.args.records.now.items c.push_texts.new.records.items c.push_texts.result)
    (sym (map_twice (λ word. (property, word)) (λ text. text.now) texts)) c.push_texts.ensures)

pub returns-in-None : goal.returns-in-None
returns-in-None c =
    let property = c.args.wanted.property in
    let records = c.args.records.now.items in
    let none : OnMade c.args.payload.now [] records records (Ok tt) = ([], tt, sym (append-nil records)) in
    subst (λ (words : List Text). OnMade c.args.payload.now (map (λ word. (property, word)) words) records records (Ok tt))
    (words_given (found_of c.args.matches.now) c.args.wanted.id.now None c.in-None.ensures) none
