-- Parts, each of which requests an edit.
use Rattle.std.proofs.Common.{◌≡◌, ◌∙◌, ◌<◌, ◌+◌, ℕ, List, length, take, get_or, map, Option, Err, Ok, sym, ap}
use Rattle.std.proofs.lemmas.List.{length-map}
use Rattle.clap.specs.Words.{Text}
use Rattle.ndef_cli_make.specs.Asked.{AskedPart}
use Rattle.ndef_cli_make.specs.Editing.{AreParsed, AskFor, IsWrongPart, ParsesEdit, edit_said}
use Rattle.ndef_cli_make.specs.Faults.{fault_at}
use Rattle.ndef_cli_make.specs.declared.editing.Edit.{Edit}
use Rattle.ndef_cli_make.specs.declared.fault.Fault.{Fault}
use Rattle.ndef_cli_make.specs.declared.fault.Fault.TheVariants.{Usage, UsageAt, EditAt, Refused, Reading, TooLong, Memory}
use Rattle.ndef_cli_make.specs.declared.usage_error.UsageError.{UsageError}
use Rattle.ndef_cli_make.proofs.Lists.{mapped_at}

-- the parts before one ask for edits
asked_front : {A : Type 0} (file : Option Text) (g : A → List Text) (ps : List A) (n : ℕ) (p : A) (edits : List (Edit AskedPart)) (number : ℕ) (m : UsageError) → n < length ps → p ≡ get_or ps n p
    → AskFor file (map g (take n ps)) edits → edit_said file (g p) ≡ Err m → number ≡ length edits + 1 → IsWrongPart file (map g ps) number m
asked_front file g ps n p edits number m l e ask wrong is =
    let split = mapped_at g ps n p l e in
    let a = length-map (map g (take n ps)) (edit_said file) in
    let b = length-map edits (λ (edit : Edit AskedPart). Ok edit) in
    let long : length (map g (take n ps)) ≡ length edits = sym a ∙ ap length ask ∙ b in
    (map g (take n ps), split.0, g p, edits, split.1, ask, wrong, is ∙ ap (λ k. k + 1) (sym long))

-- a fault of a part is one of all
pub wrong_at : {A : Type 0} (file : Option Text) (g : A → List Text) (ps : List A) (n : ℕ) (p : A) (edits : List (Edit AskedPart)) (number : ℕ) (fault : Fault) → n < length ps → p ≡ get_or ps n p
    → AskFor file (map g (take n ps)) edits → ParsesEdit file (g p) (Err fault) → number ≡ length edits + 1 → AreParsed file (map g ps) (Err (fault_at number fault))
wrong_at file g ps n p edits number (Usage m) l e ask wrong is = asked_front file g ps n p edits number m l e ask wrong is
wrong_at file g ps n p edits number (UsageAt k m) l e ask wrong is = absurd wrong
wrong_at file g ps n p edits number (EditAt k m) l e ask wrong is = absurd wrong
wrong_at file g ps n p edits number (Refused why) l e ask wrong is = absurd wrong
wrong_at file g ps n p edits number Reading l e ask wrong is = absurd wrong
wrong_at file g ps n p edits number TooLong l e ask wrong is = absurd wrong
wrong_at file g ps n p edits number Memory l e ask wrong is = tt
