use Rattle.ndef_message.proofs.begun.record_at.Goals as goal

pub split_at-requires : goal.split_at-requires
split_at-requires c = c.in_ok-head.ensures.begins.within
