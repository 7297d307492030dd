use Rattle.std.proofs.Math.Logic.{∥∥₁_map}
use Rattle.ndef_message.proofs.AllFed.{some_fed}
use Rattle.ndef_message.proofs.laws.checkers_are_exact.Goals as goal

pub returns : goal.returns
returns g c = record { some = ∥∥₁_map c.args.checker.now.led (some_fed c.args.checker.now) }
