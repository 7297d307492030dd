use Rattle.std.proofs.Common.{sym, ap, ◌∙◌, drop, get_or, take}
use Rattle.ndef_types.proofs.AlternativeLemmas.{ac_parts}
use Rattle.ndef_types.proofs.alternative_parts.AlternativeParts.to_value.Goals as goal

pub split_counted-requires : goal.split_counted-requires
split_counted-requires c = rw c.after_first.ensures (ac_parts c.self.inside.payload.now c.self.invariant).room

pub read_auxiliary-requires : goal.read_auxiliary-requires
read_auxiliary-requires c = rw (c.split_counted.ensures.rest, c.after_first.ensures) (ac_parts c.self.inside.payload.now c.self.invariant).auxiliary

pub returns : goal.returns
returns c =
    let payload = c.self.inside.payload.now in
    let reference = sym (c.in-Ok.ensures.ok ∙ c.split_counted.ensures.field ∙ ap (λ s. take (get_or s 0 0) (drop 1 s)) c.after_first.ensures) in
    let auxiliary = rw (c.split_counted.ensures.rest, c.after_first.ensures, ← c.in_ok-rest.ensures.ok) at c.in_ok-auxiliary.ensures.auxiliary in
    rw (c.in-Ok-new.ensures.1, ← c.self.view_is) ((ac_parts payload c.self.invariant).stands _ c.of-power.ensures reference auxiliary)
