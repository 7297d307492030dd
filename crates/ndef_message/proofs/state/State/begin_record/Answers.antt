use Rattle.std.proofs.Common.{[], refl, arith}
use Rattle.ndef_message.proofs.HeadOctets as heads
use Rattle.ndef_message.proofs.state.State.begin_record.Goals as goal

pub returns-then-head-gt0 : goal.returns-then-head-gt0
returns-then-head-gt0 g c =
    let laws = c.format_laws.ensures in
    record { stands = λ bytes given d f w members. heads.whole_type laws.laws laws.range g.met.L.RecordLanguage.payloads_are_octets g.met.L.RecordLanguage.others w c.requires.outside (omega arith) members c.clear.ensures }

pub returns : goal.returns
returns g c =
    let laws = c.format_laws.ensures in
    record {
      stands = λ bytes given d f w members.
          c.advance_field.ensures.stands bytes given d f [] [] []
          (heads.whole_bare laws.laws laws.range g.met.L.RecordLanguage.payloads_are_octets g.met.L.RecordLanguage.others w c.requires.outside (omega arith) c.unwrap_or-id_left.ensures c.records.ensures.value c.profile.ensures.value refl c.start.ensures.future c.start.ensures.reached)
          (heads.begun_viable laws.laws laws.range g.met.L.RecordLanguage.payloads_are_octets g.met.L.RecordLanguage.others w c.requires.outside members);
    }
