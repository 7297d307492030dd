-- Inputs by their names.
use Rattle.std.specs.Prelude.{ℕ, List, Result}
use Rattle.ndef_message.specs.declared.input.InputError.{InputError}
use Rattle.ndef_cli.specs.Quoting.{Text}

-- the bytes, or the fault, that an input of a name gives, and the rest of the inputs
abbrev pub GivesInput : Type 0 → Type 1
GivesInput I = I → (name : Text) → (read : Result (List ℕ) InputError) → I → Type 0
