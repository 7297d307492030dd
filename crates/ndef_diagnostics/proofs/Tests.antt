-- The meaning of a test and of an option.
use Rattle.std.proofs.Common.{◌≡◌, Bool, false, rules, subst, Option, None, Some}
use Rattle.std.specs.Bool.{IsTrue}
use Rattle.std.specs.Option.{IfNone}

pub not_true : {b : Bool} → b ≡ false → IsTrue b → ⊥
not_true e t = let q = subst IsTrue e t in search rules

pub if_none_weaker : {T P Q : Type 0} (o : Option T) → (P → Q) → IfNone o P → IfNone o Q
if_none_weaker None f h = f h
if_none_weaker (Some x) f h = h
