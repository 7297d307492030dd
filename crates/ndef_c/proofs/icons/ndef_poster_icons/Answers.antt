use Rattle.std.proofs.Common.{rules}
use Rattle.ndef_c.proofs.TitleTexts.{poster_of}
use Rattle.ndef_c.proofs.icons.ndef_poster_icons.Goals as goal

pub give_all-requires : goal.give_all-requires
give_all-requires c = poster_of c.args.payload.now (c.is_poster.ensures.0 (search (rules, c.if-not-is_poster.false)))

pub returns-clause-icons : goal.returns-clause-icons
returns-clause-icons c = λ _.
    let t = c.give_all.ensures.gives in
    record { poster = c.is_poster.ensures.0 (search (rules, c.if-not-is_poster.false)); items = t.0; records = t.1; gives = t.2 }
