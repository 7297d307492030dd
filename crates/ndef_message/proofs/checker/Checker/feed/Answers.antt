use Rattle.ndef_message.proofs.AllFed.{checker_reported}
use Rattle.ndef_message.proofs.checker.Checker.feed.Goals as goal

pub returns : goal.returns
returns g c =
    let fed = c.feed_bytes.ensures in
    let reported = checker_reported c.one_meaning.ensures.once c.args.self.now c.feed_bytes.new.self c.args.bytes.now c.feed_bytes.result fed.limits fed.fed in
    record { fed = λ limits front h. (reported limits front h).0; tells = λ limits front h. (reported limits front h).1 }
