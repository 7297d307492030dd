use Rattle.ndef_message.proofs.AllFed.{one_count}
use Rattle.ndef_message.proofs.Fronts.{one_led, one_held}
use Rattle.ndef_message.proofs.laws.fronts_are_exact.Goals as goal

pub returns : goal.returns
returns g c =
    let one = c.next_fields_are_exact.ensures.one in
    let set = g.L.RecordLanguage.payloads in
    record { counted = one_count one set; led = one_led one set; held = one_held one set }
