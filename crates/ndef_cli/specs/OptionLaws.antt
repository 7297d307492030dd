-- When a word is a number, and what words with a fault say.
use Rattle.std.proofs.Common.{◌≡◌, ◌∙◌, ◌⊎◌, ℕ, Bool, true, false, List, [], ◌∷◌, Option, Some, None, Ok, Err, refl, sym, ap, subst, arith, cond, inl, inr}
use Rattle.std.specs.Str.Parse.{ParsesUnsigned, digits_value, without_leading_plus}
use Rattle.std.proofs.lemmas.Bool.{false_from_ne_true}
use Rattle.clap.specs.ValueTests.{accepts}
use Rattle.clap.specs.Words.{App, HasKind, IsAmong, Kinds, Text, fault_of, is_simple_and_free}
use Rattle.clap.specs.declared.builder.value_parser.ValueParser.TheVariants as vp
use Rattle.clap.specs.declared.error.Error.{Error}
use Rattle.clap.specs.declared.error.kind.ErrorKind.{ErrorKind}
use Rattle.clap.proofs.ValueTestLemmas.{accepts-Accepts, Accepts-accepts}
use Rattle.ndef_cli.specs.Options.{number_in, unless_fault}

-- ---- numbers

abbrev passes : Text → Bool
passes t = accepts false (vp.Unsigned 0 4294967295) t

-- a number that is read
pub number_read : (t : Text) (v : ℕ) → ParsesUnsigned {E = ℕ} 32 10 t (Ok v) → Some v ≡ number_in t
number_read t v p =
    let yes : passes t ≡ true = Accepts-accepts false (vp.Unsigned 0 4294967295) t
    (p.0.0, omega (arith, p.0.1), omega arith, omega (arith, p.0.1)) in
    ap (λ n. Some n) p.1 ∙ ap (λ b. cond b (Some (digits_value 10 (without_leading_plus t))) None) (sym yes)

-- a word that is no number
pub number_unread : (t : Text) → ParsesUnsigned {E = ℕ} 32 10 t (Err 0) → None ≡ number_in t
number_unread t p =
    let no : passes t ≡ false = false_from_ne_true (passes t)
    (λ y. let a = accepts-Accepts false (vp.Unsigned 0 4294967295) t y in p (a.0, omega (arith, a.3))) in
    ap (λ b. cond b (Some (digits_value 10 (without_leading_plus t))) None) (sym no)

-- ---- faults

-- words in which clap finds no fault say what it matches
pub faultless : {X : Type 0} (built wanted : App) (args : List Text) (said : Option X) → built ≡ wanted
    → is_simple_and_free wanted ≡ true → (is_simple_and_free built ≡ true → fault_of built args ≡ [])
    → unless_fault (fault_of wanted args) said ≡ said
faultless built wanted args said is free kinds =
    let none : fault_of wanted args ≡ [] =
    ap (λ (a : App). fault_of a args) (sym is) ∙ kinds (ap is_simple_and_free is ∙ free) in
    ap (λ (k : Kinds). unless_fault k said) none

among : {X : Type 0} (k : ErrorKind) (kinds : Kinds) (said : Option X) → IsAmong k kinds
    → unless_fault kinds said ≡ None
among k [] said h = absurd h
among k (x ∷ xs) said h = refl

-- words that clap refuses, but not for memory, say nothing
pub faulty : {X : Type 0} (built wanted : App) (args : List Text) (k memory : ErrorKind) (said : Option X)
    → built ≡ wanted → is_simple_and_free wanted ≡ true → (k ≡ memory → ⊥)
    → (is_simple_and_free built ≡ true → (k ≡ memory) ⊎ IsAmong k (fault_of built args))
    → unless_fault (fault_of wanted args) said ≡ None
faulty built wanted args k memory said is free other kinds = elim (kinds (ap is_simple_and_free is ∙ free)) [
  | inl h ↦ absurd (other h)
  | inr h ↦ among k (fault_of wanted args) said (subst (λ (a : App). IsAmong k (fault_of a args)) is h)
]

-- the fault that clap finds in words
pub fault_by : (built wanted : App) (args : List Text) (error : Error) → built ≡ wanted
    → is_simple_and_free wanted ≡ true
    → (is_simple_and_free built ≡ true → HasKind (fault_of built args) error) → HasKind (fault_of wanted args) error
fault_by built wanted args error is free kinds =
    subst (λ (a : App). HasKind (fault_of a args) error) is (kinds (ap is_simple_and_free is ∙ free))
