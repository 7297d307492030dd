-- Tests that hold or fail together, and a list of them that is gone through.
use Rattle.std.proofs.Common.{◌≡◌, Bool, true, false, cond, refl, Option, Some, None}
use Rattle.std.specs.Prelude.{not, ◌&&◌}

-- a conjunction fails where its second test does, if the first holds
pub and_false : (x y : Bool) → (x ≡ true → y ≡ false) → (x && y) ≡ false
and_false true y h = h refl
and_false false y h = refl

-- and back
pub false_of_and : (x y : Bool) → (x && y) ≡ false → x ≡ true → y ≡ false
false_of_and true y e f = e
false_of_and false y e f = cc

-- flags that differ in neither way are one
pub same_flag : (x y : Bool) → (x && not y) ≡ false → (not x && y) ≡ false → y ≡ x
same_flag true true e f = refl
same_flag true false e f = cc
same_flag false true e f = cc
same_flag false false e f = refl

-- a condition that does not hold is passed over
pub skip : {A : Type 0} (t : Bool) (x : A) (o : Option A) → t ≡ false → o ≡ None → cond t (Some x) o ≡ None
skip true x o h e = cc
skip false x o h e = e

-- where none is found, each one was passed over
pub skipped : {A : Type 0} (t : Bool) (x : A) (o : Option A) → cond t (Some x) o ≡ None → (t ≡ false) × (o ≡ None)
skipped true x o e = cc
skipped false x o e = (refl, e)
