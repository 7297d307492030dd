use Rattle.std.proofs.Common.{◌++◌, ◌∷◌, [], inl, inr}
use Rattle.ndef_message.proofs.Entered as entered
use Rattle.ndef_message.proofs.Somewhere.{number_of_some}
use Rattle.ndef_message.proofs.state.State.start_body.Goals as goal

pub fits-requires : goal.fits-requires
fits-requires g c =
    let laws = c.format_laws.ensures in
    rw c.most_left.ensures (number_of_some _ _ _ c.requires.led (λ w. entered.body_small laws.laws laws.range w.body))

pub returns-then-fits : goal.returns-then-fits
returns-then-fits g c =
    let laws = c.format_laws.ensures in
    record {
      entered = λ bytes given point b d f kind id payload came body.
          let can = entered.reported_yes (g.met.L.RecordLanguage.exact c.args.self.now.payload) c.fits.ensures c.from.ensures c.most_left.ensures (entered.body_small laws.laws laws.range body) c.if-fits.true in
          inl (c.advance_field.ensures.stands (bytes ++ b ∷ []) given d f kind id payload body (entered.body_goes_on laws.laws laws.range body g.met.L.RecordLanguage.payloads_are_octets g.met.L.RecordLanguage.others (entered.given_members laws.laws _ _ laws.range bytes given point came.at_is came.viable) can));
    }

pub returns-else-fits : goal.returns-else-fits
returns-else-fits g c =
    let laws = c.format_laws.ensures in
    record {
      entered = λ bytes given point b d f kind id payload came body.
          let cannot = entered.reported_no (g.met.L.RecordLanguage.exact c.args.self.now.payload) c.fits.ensures c.from.ensures c.most_left.ensures (entered.body_small laws.laws laws.range body) c.if-fits.false in
          inr (entered.stopped c.args.self.now (entered.body_counted laws.laws laws.range body) (λ v. cannot (entered.body_went_on laws.laws laws.range body g.met.L.RecordLanguage.payloads_are_octets g.met.L.RecordLanguage.others (entered.given_members laws.laws _ _ laws.range bytes given point came.at_is came.viable) v)) came);
    }
