use Rattle.std.proofs.Common.{rules}
use Rattle.ndef_c.proofs.TitleTexts.{poster_of}
use Rattle.ndef_c.proofs.titles.ndef_poster_titles.Goals as goal

pub give_all-requires : goal.give_all-requires
give_all-requires c =
    let poster = c.is_poster.ensures.0 (search (rules, c.if-not-is_poster.false)) in
    let h = poster_of c.args.payload.now poster in
    (h.0, (h.1, poster.short))

pub returns-clause-titles : goal.returns-clause-titles
returns-clause-titles c = λ _.
    let t = c.give_all.ensures.gives in
    record { poster = c.is_poster.ensures.0 (search (rules, c.if-not-is_poster.false)); items = t.0; records = t.1.0; gives = t.2 }
