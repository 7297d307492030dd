-- The words that `get_one` reads as a number.
use Rattle.std.proofs.Common.{◌≡◌, ℕ, List, Option, Some, None, Result, Ok, Err, refl}
use Rattle.std.specs.Option.{option_and_then}
use Rattle.std.specs.Str.Parse.{ParsesUnsigned}
use Rattle.clap.specs.Words.{ReadsOne, Text}
use Rattle.ndef_cli.specs.OptionLaws.{number_read, number_unread}
use Rattle.ndef_cli.specs.Options.{number_in}

pub reads_number : {E : Type 0} (G : List ℕ → Result ℕ E → Type 0) (o : Option Text) (r : Option ℕ)
    → (o ≡ None → r ≡ None) → ((t : Text) → o ≡ Some t → ReadsOne G t r)
    → ((u : List ℕ) (x : Result ℕ E) → G u x → ParsesUnsigned 32 10 u x)
    → r ≡ option_and_then number_in o
reads_number G None r none value parses = none refl
reads_number {E} G (Some t) r none value parses = go r (value t refl)
  where
    go : (x : Option ℕ) → ReadsOne G t x → x ≡ number_in t
    go (Some v) h = number_read t v (parses t (Ok v) h)
    go None h = number_unread t (parses t (Err h.0) h.1)
