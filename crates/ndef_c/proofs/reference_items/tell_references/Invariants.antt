use Rattle.std.proofs.Common.{◌≡◌, ◌≤◌, List}
use Rattle.ndef_format.specs.Messages.{Item}
use Rattle.ndef_format.specs.declared.profile.Profile.{Profile}
use Rattle.ndef_c.specs.HandoverItems.{HasCarriers}
use Rattle.ndef_c.proofs.ReferenceLists.{Listed}
use Rattle.ndef_c.proofs.reference_items.tell_references.Given as goal

abbrev pub invariant-loop-found : goal.invariant-loop-found
invariant-loop-found l = record {
  same : l.found-iterator.bytes.now ≡ l.message;
  counted : l.index ≤ l.found-iterator.at;
  listed : (profile : Profile) (records : List Item) → HasCarriers profile records l.payload → Listed l.payload l.message records l.found-iterator l.index l.count l.fn.items l.items;
}
