use Rattle.std.proofs.Common.{rules}
use Rattle.std.proofs.lemmas.Slice.Eq.{slice_eq-Decides}
use Rattle.ndef_value.proofs.Equality.{items-Decides}
use Rattle.ndef_value.proofs.message.MessagePartialEq.eq.Goals as goal

pub returns-clause-value : goal.returns-clause-value
returns-clause-value c =
    slice_eq-Decides items-Decides c.args.self.now c.args.other.now c.eq.result (search rules)
