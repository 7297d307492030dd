use Rattle.std.proofs.Common.{◌≡◌}
use Rattle.std.specs.List.{find}
use Rattle.ndef_format.specs.Messages.{run_record}
use Rattle.ndef_format.specs.Kinds.{kind_of}
use Rattle.ndef_types.specs.Links.{is_handover}
use Rattle.ndef_types.proofs.link.viewed_handover.Given as goal

abbrev pub invariant-loop-item : goal.invariant-loop-item
invariant-loop-item l =
    find (λ r. is_handover (kind_of (run_record r).tnf (run_record r).kind)) l.item-iterator
    ≡ find (λ r. is_handover (kind_of (run_record r).tnf (run_record r).kind)) l.fn.view.runs
