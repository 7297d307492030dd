use Rattle.std.proofs.Common.{[], inl}
use Rattle.std.proofs.Math.Logic.{∥∥₁_map}
use Rattle.ndef_message.proofs.Entered as entered
use Rattle.ndef_message.proofs.HeadOctets as heads
use Rattle.ndef_message.proofs.state.State.after_head.Goals as goal

pub start_body-requires : goal.start_body-requires
start_body-requires g c = record {
  led = ∥∥₁_map c.requires.led (λ w. entered.some_body (heads.whole_inside c.format_laws.ensures.laws c.format_laws.ensures.range g.met.L.RecordLanguage.payloads_are_octets g.met.L.RecordLanguage.others w.whole c.if-self.true));
}

pub returns-then-self : goal.returns-then-self
returns-then-self g c = record {
  entered = λ bytes given point b d f came w. c.start_body.ensures.entered bytes given point b d f [] [] [] came (heads.whole_inside c.format_laws.ensures.laws c.format_laws.ensures.range g.met.L.RecordLanguage.payloads_are_octets g.met.L.RecordLanguage.others w c.if-self.true);
}

pub returns-else-self : goal.returns-else-self
returns-else-self g c =
    let laws = c.format_laws.ensures.laws in
    let range = c.format_laws.ensures.range in
    record {
      entered = λ bytes given point b d f came w.
          inl (c.begin_record.ensures.stands _ given d f w (entered.given_members laws _ _ range bytes given point came.at_is came.viable));
    }
