-- Why a record isn't added.
use Rattle.std.proofs.Common.{◌≡◌, ℕ, ◌<◌, ◌^◌, arith, refl}
use Rattle.std.specs.Prelude.{IfErr, Result, Ok, Err}
use Rattle.ndef_types.specs.Building.{FailsToAdd}
use Rattle.ndef_types.specs.declared.build_error.BuildError.{BuildError}
use Rattle.ndef_types.specs.declared.build_error.BuildError.TheVariants as errors

-- a short payload isn't refused
pub memory_alone : {X : Type 0} (n : ℕ) (result : Result X BuildError) → n < 2 ^ 32 → IfErr result (FailsToAdd n)
    → IfErr result (λ error. error ≡ errors.NoMemory)
memory_alone n (Ok x) short fails = tt
memory_alone n (Err errors.NoMemory) short fails = refl
memory_alone n (Err errors.TooLong) short fails = absurd (omega (arith, short, fails))
memory_alone n (Err errors.NotAscii) short fails = absurd fails
memory_alone n (Err errors.RecordCount) short fails = absurd fails
memory_alone n (Err (errors.Wrong index)) short fails = absurd fails
