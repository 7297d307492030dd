use Rattle.std.proofs.Common.{◌≡◌, ◌≤◌, List, length}
use Rattle.std.specs.Prelude.{filter}
use Rattle.ndef_format.specs.Messages.{Item}
use Rattle.ndef_format.specs.declared.profile.Profile.{Profile}
use Rattle.ndef_c.specs.Nested.{MayBeInPieces}
use Rattle.ndef_c.specs.RecordQuery.{has_type}
use Rattle.ndef_c.proofs.Ahead.{Ahead}
use Rattle.ndef_c.proofs.query.count_expected.Given as goal

abbrev pub invariant-loop-found : goal.invariant-loop-found
invariant-loop-found g l = record {
  same : l.found-iterator.bytes.now ≡ l.bytes;
  counted : l.count ≤ l.found-iterator.at;
  ahead : (profile : Profile) (items : List Item) → MayBeInPieces profile items l.bytes
      → (done : List Item) × Ahead items l.bytes l.found-iterator done × (l.count ≡ length (filter (has_type g.W.Expected.expected) done));
}
