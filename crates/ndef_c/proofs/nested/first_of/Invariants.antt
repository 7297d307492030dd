use Rattle.std.proofs.Common.{◌≡◌, List}
use Rattle.ndef_format.specs.Messages.{Item}
use Rattle.ndef_format.specs.declared.profile.Profile.{Profile}
use Rattle.ndef_types.specs.Contents.{IsOfKind, Lack}
use Rattle.ndef_c.specs.Nested.{MayBeInPieces}
use Rattle.ndef_c.proofs.Ahead.{Ahead}
use Rattle.ndef_c.proofs.nested.first_of.Given as goal

abbrev pub invariant-loop-found : goal.invariant-loop-found
invariant-loop-found l = record {
  same : l.found-iterator.bytes.now ≡ l.bytes;
  ahead : (profile : Profile) (items : List Item) → MayBeInPieces profile items l.bytes
      → (done : List Item) × Ahead items l.bytes l.found-iterator done × Lack (IsOfKind l.table l.kind) done;
}
