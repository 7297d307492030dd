-- The results for each of some records, one after another.
use Rattle.std.proofs.Common.{◌≡◌, ℕ, ◌+◌, refl, sym, ◌∙◌, ap, arith, List, [], ◌∷◌, ◌++◌, append_assoc, append-nil, length}
use Rattle.ndef_format.specs.Records.{Run}
use Rattle.ndef_cli_explain.specs.OfEach.{AreOfEach, Puts}

-- what is put after some records continues with those that are left
pub record KeepsOn {X S : Type 0} (put : S → List X → S) (IsOf : ℕ → Run → List X → Type 0) (first : ℕ) (runs rest : List Run) (number : ℕ) (old new : S) : Type 0 where
  pub done : List X
  pub done_is : new ≡ put old done
  pub goes_on : (more : List X) → AreOfEach IsOf number rest more → AreOfEach IsOf first runs (done ++ more)

pub keeps_first : {X S : Type 0} (put : S → List X → S) (IsOf : ℕ → Run → List X → Type 0) (first : ℕ) (runs : List Run) (old : S)
    → put old [] ≡ old → KeepsOn put IsOf first runs runs first old old
keeps_first put IsOf first runs old none = record { done = []; done_is = sym none; goes_on = λ more h. h }

pub keeps_next : {X S : Type 0} (put : S → List X → S) (IsOf : ℕ → Run → List X → Type 0) (first : ℕ) (runs rest : List Run) (run : Run) (number : ℕ) (old new newer : S)
    → ((one more : List X) → put old (one ++ more) ≡ put (put old one) more) → KeepsOn put IsOf first runs (run ∷ rest) number old new → Puts put (IsOf number run) new newer
    → KeepsOn put IsOf first runs rest (number + 1) old newer
keeps_next put IsOf first runs rest run number old new newer more k (one, is, e) = record {
  done = k.done ++ one;
  done_is = e ∙ ap (λ x. put x one) k.done_is ∙ sym (more k.done one);
  goes_on = λ others h. rw (append_assoc k.done one others) (k.goes_on (one ++ others) (one, others, is, h, refl));
}

pub keeps_last : {X S : Type 0} (put : S → List X → S) (IsOf : ℕ → Run → List X → Type 0) (first : ℕ) (runs rest : List Run) (number : ℕ) (old new : S)
    → KeepsOn put IsOf first runs rest number old new → rest ≡ [] → Puts put (AreOfEach IsOf first runs) old new
keeps_last put IsOf first runs [] number old new k e = (k.done ++ [], k.goes_on [] refl, k.done_is ∙ ap (put old) (sym (append-nil k.done)))
keeps_last put IsOf first runs (r ∷ rest) number old new k e = absurd (let n = ap length e in omega (arith, n))
