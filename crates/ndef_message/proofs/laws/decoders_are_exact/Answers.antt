use Rattle.std.proofs.Math.Logic.{∥∥₁_map}
use Rattle.ndef_message.specs.Opened.{HasLed}
use Rattle.ndef_message.proofs.Decoded.{some_read, reported_of}
use Rattle.ndef_message.proofs.Led.{decoder_led}
use Rattle.ndef_message.proofs.laws.decoders_are_exact.Goals as goal

pub returns : goal.returns
returns g c =
    let s = c.args.decoder.now in
    record {
      some = ∥∥₁_map s.led (some_read s);
      records = reported_of s (λ limits front given. HasLed g.L.RecordLanguage.payloads limits front given) (decoder_led c.messages_are_walks.ensures.counted s);
    }
