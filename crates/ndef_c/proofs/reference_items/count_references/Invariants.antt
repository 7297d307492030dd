use Rattle.std.proofs.Common.{◌≡◌, ◌≤◌, ◌*◌, List, sum_by}
use Rattle.ndef_format.specs.Messages.{Item}
use Rattle.ndef_format.specs.declared.profile.Profile.{Profile}
use Rattle.ndef_types.specs.Links.{alternatives}
use Rattle.ndef_c.specs.HandoverItems.{HasCarriers, reference_count}
use Rattle.ndef_c.proofs.Ahead.{Ahead}
use Rattle.ndef_c.proofs.reference_items.count_references.Given as goal

abbrev pub invariant-loop-found : goal.invariant-loop-found
invariant-loop-found l = record {
  same : l.found-iterator.bytes.now ≡ l.message;
  counted : l.count ≤ 256 * l.found-iterator.at;
  ahead : (profile : Profile) (records : List Item) → HasCarriers profile records l.payload
      → (done : List Item) × Ahead records l.message l.found-iterator done × (l.count ≡ sum_by reference_count (alternatives done));
}
