use Rattle.ndef_types.proofs.TextLemmas.{text_parts}
use Rattle.ndef_types.proofs.text.TextParts.split.Goals as goal

pub after_first-requires : goal.after_first-requires
after_first-requires c = (text_parts c.self.inside.payload.now c.self.invariant).some

pub split_at-requires : goal.split_at-requires
split_at-requires c = rw (c.after_first.ensures, c.from.ensures) (text_parts c.self.inside.payload.now c.self.invariant).room
