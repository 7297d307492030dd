use Rattle.std.proofs.Common.{◌≡◌, ◌+◌, ◌*◌}
use Rattle.ndef_piece.specs.Steps.{left}
use Rattle.ndef_fields.specs.Walks.{IsSound, fields_left, step_rank}
use Rattle.ndef_fields.proofs.message_fields.next_field.Given as goal

abbrev pub invariant-loop-field : goal.invariant-loop-field
invariant-loop-field l = record { same : fields_left l.fn.walk l.fn.begun ≡ fields_left l.walk l.begun; sound : IsSound l.walk l.begun }

abbrev pub decreases-loop-field : goal.decreases-loop-field
decreases-loop-field l = left l.walk * 1024 + step_rank l.begun
