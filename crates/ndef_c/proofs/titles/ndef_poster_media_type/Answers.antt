use Rattle.ndef_format.specs.declared.profile.Profile.TheVariants.{Standard}
use Rattle.ndef_c.proofs.Posters.{in_pieces}
use Rattle.ndef_c.proofs.TitleTexts.{poster_of}
use Rattle.ndef_c.proofs.titles.ndef_poster_media_type.Goals as goal

pub returns-in_default-clause-end : goal.returns-in_default-clause-end
returns-in_default-clause-end c = λ _.
    let p = c.is_poster.ensures.0 c.if-not-is_poster.false in
    let h = poster_of c.args.payload.now p in
    record { poster = p; items = h.0; records = h.1; none = c.in_default.ensures Standard h.0 (in_pieces Standard h.0 c.args.payload.now h.1) }

pub returns-clause-found : goal.returns-clause-found
returns-clause-found c = λ _.
    let p = c.is_poster.ensures.0 c.if-not-is_poster.false in
    let h = poster_of c.args.payload.now p in
    let f = c.in-Some.ensures Standard h.0 (in_pieces Standard h.0 c.args.payload.now h.1) in
    record { poster = p; items = h.0; records = h.1; media = f.0; is_first = f.1; lies = f.2.lies; place = f.2.place }
