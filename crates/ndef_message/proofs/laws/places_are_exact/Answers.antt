use Rattle.ndef_message.proofs.AllFed.{messages_longest}
use Rattle.ndef_message.proofs.Places.{one_place, no_prefix_is_deep}
use Rattle.ndef_message.proofs.laws.places_are_exact.Goals as goal

pub returns : goal.returns
returns g c =
    let meaning = c.one_meaning.ensures.once in
    let set = g.L.RecordLanguage.payloads in
    record { one = one_place set; no_prefix = no_prefix_is_deep meaning set; longest = messages_longest meaning set }
