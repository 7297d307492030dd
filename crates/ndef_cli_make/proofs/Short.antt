-- References that aren't too long.
use Rattle.std.proofs.Common.{◌≡◌, ◌<◌, ◌∙◌, ℕ, Bool, List, [], ◌∷◌, ◌++◌, length, refl, sym, ap, arith, rules, true, false, Err}
use Rattle.std.specs.Prelude.{◌&&◌, IsErrOf, Result, nat_lt}
use Rattle.ndef_value.specs.declared.name.NameError.{NameError}
use Rattle.ndef_value.specs.declared.name.NameError.TheVariants as names
use Rattle.std.proofs.lemmas.Bool.{lt-ltb, ltb-true}
use Rattle.ndef_cli_make.specs.Faults.{name_fault}
use Rattle.ndef_cli_make.specs.Handovers.{AreNames, AreShort, are_short}
use Rattle.clap.specs.Words.{Text}

-- one of them
pub short_within : (xs : List Text) (x : Text) (rest : List Text) → AreShort (xs ++ x ∷ rest) → length x < 256
short_within [] x rest are = are.0
short_within (y ∷ xs) x rest are = short_within xs x rest are.1

-- the result for a name that isn't made
abbrev pub unmade : NameError → Result (List ℕ) NameError
unmade error = Err error

-- the name of a short reference that isn't made
pub names_fail : (references : List Text) (error : NameError) (reference : Text) → length reference < 256 → (IsErrOf (unmade error) names.TooLong → 255 < length reference)
    → AreNames references (Err (name_fault error))
names_fail references names.TooLong reference short long = absurd (omega (arith, short, long refl))
names_fail references names.NoMemory reference short long = tt

-- ---- the test

both : (a b : Bool) → (a && b) ≡ true → (a ≡ true) × (b ≡ true)
both true b is = (refl, is)
both false b is = absurd (search rules)

-- what passes is short
pub short_if : (references : List Text) → are_short references ≡ true → AreShort references
short_if [] is = tt
short_if (r ∷ references) is =
    let h = both (nat_lt (length r) 256) (are_short references) is in
    (ltb-true (length r) 256 h.0, short_if references h.1)

-- what doesn't pass isn't
pub long_if : (references : List Text) → are_short references ≡ false → AreShort references → ⊥
long_if [] is are = absurd (search rules)
long_if (r ∷ references) is are = long_if references (sym (ap (λ b. b && are_short references) (lt-ltb (length r) 256 are.0)) ∙ is) are.1
