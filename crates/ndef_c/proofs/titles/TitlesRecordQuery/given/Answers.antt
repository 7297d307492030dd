use Rattle.std.proofs.Common.{sym, subst}
use Rattle.ndef_format.specs.Messages.{run_record}
use Rattle.ndef_format.specs.Texts.{IsText}
use Rattle.ndef_c.specs.Titles.{LiesAsText}
use Rattle.ndef_c.proofs.Filtered.{index_of_expected}
use Rattle.ndef_c.proofs.TitleTexts.{is_title, title_text}
use Rattle.ndef_c.proofs.titles.TitlesRecordQuery.given.Goals as goal

pub text_of-requires : goal.text_of-requires
text_of-requires c =
    let w = c.requires.3 in
    let text = title_text c.requires.0 w.before c.args.self.now.payload.now (run_record w.there.run) c.requires.2.0 (w.after, w.all) w.is_expected in
    record { text = (w.from, w.there, subst IsText (sym w.one) text); bound = c.requires.2.1 }

pub returns : goal.returns
returns c = λ items index h w.
    let payload = c.args.self.now.payload.now in (
      run_record w.there.run,
      index_of_expected is_title payload items index c.args.found.now w,
      c.args.found.now.payload_at,
      (w.before, w.index_is, w.stands),
      subst (λ p. LiesAsText payload p c.args.found.now.payload_at c.text_of.result) w.one (c.text_of.ensures w.from w.there),
    )
