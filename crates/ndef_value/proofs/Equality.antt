-- What `==` of records says.
use Rattle.std.proofs.Common.{rules, ◌≡◌}
use Rattle.std.specs.Bool.{Decides}
use Rattle.ndef_value.specs.contracts.record.RecordPartialEq.TheImpl.{ghosts}
use Rattle.ndef_format.specs.Messages.{Item}

-- records are equal where their parts are
pub items-Decides : (m n : Item) → Decides (ghosts.eq m n) (m ≡ n)
items-Decides m n = search rules
