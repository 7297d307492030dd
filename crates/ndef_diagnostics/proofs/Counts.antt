-- Counting the records of a list one after another, and finding one.
use Rattle.std.proofs.Common.{◌≡◌, ◌∙◌, ℕ, ◌+◌, ◌≤◌, Bool, true, false, List, ◌∷◌, ap, arith, length, sym}
use Rattle.std.specs.Prelude.{◌||◌, if◌then◌else◌}
use Rattle.ndef_format.specs.Records.{Run}

-- those before the rest of a list are counted
pub record Counted (number : List Run → ℕ) (count : ℕ) (rest runs : List Run) : Type 0 where
  pub counted : count + number rest ≡ number runs
  pub few : count + length rest ≤ 65535

-- the next one counts
pub counted_one : (number : List Run → ℕ) (b : Bool) (run : Run) (count : ℕ) (rest next runs : List Run) → rest ≡ run ∷ next → b ≡ true
    → number (run ∷ next) ≡ (if b then 1 else 0) + number next → Counted number count rest runs → Counted number (count + 1) next runs
counted_one number true run count rest next runs is e step i =
    let c = i.counted in let n = i.few in record { counted = omega (arith, step, ap number is, c); few = omega (arith, ap length is, n) }
counted_one number false run count rest next runs is e step i = cc

-- it doesn't
pub counted_none : (number : List Run → ℕ) (b : Bool) (run : Run) (count : ℕ) (rest next runs : List Run) → rest ≡ run ∷ next → b ≡ false
    → number (run ∷ next) ≡ (if b then 1 else 0) + number next → Counted number count rest runs → Counted number count next runs
counted_none number false run count rest next runs is e step i =
    let c = i.counted in let n = i.few in record { counted = omega (arith, step, ap number is, c); few = omega (arith, ap length is, n) }
counted_none number true run count rest next runs is e step i = cc

pub found : (one more total : Bool) → (one || more) ≡ total → one ≡ true → true ≡ total
found one more total e is = sym (ap (λ b. b || more) is) ∙ e
