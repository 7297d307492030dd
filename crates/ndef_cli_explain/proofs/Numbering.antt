-- A record of an input, by its number.
use Rattle.std.proofs.Common.{◌≡◌, ◌≢◌, ◌∙◌, ◌+◌, ℕ, zero, suc, List, [], ◌∷◌, ◌++◌, Option, Some, None, Ok, Bool, true, false, ap, arith, drop, length, refl, sym}
use Rattle.std.specs.Prelude.{◌==◌, slice_get}
use Rattle.std.proofs.lemmas.Bool.{eqb-true}
use Rattle.std.proofs.lemmas.List.{length-append}
use Rattle.ndef_format.specs.Limits.{LimitValues}
use Rattle.ndef_format.specs.NestedReasons.{TypedReason}
use Rattle.ndef_format.specs.Payloads.{IsTypedPayload}
use Rattle.ndef_format.specs.Records.{Run}
use Rattle.ndef_format.specs.Refusals.{Refuses}
use Rattle.ndef_format.specs.declared.refusal.Refusal.{Refusal}
use Rattle.ndef_fields.specs.Reports.{TellsFields}
use Rattle.ndef_fields.specs.declared.report.FieldReport.{FieldReport}
use Rattle.ndef_cli_explain.specs.Numbered.{IsRecordAt, records_of}
use Rattle.ndef_cli_explain.specs.declared.explaining.Stop.TheVariants.{End, Refused}

-- what is found of the rest, at the place that is left, is found of the input
abbrev pub KeepsOn : LimitValues → (input rest : List ℕ) → (place left : ℕ) → Type 0
KeepsOn limits input rest place left =
    (found : Option Run) → IsRecordAt limits left rest found → IsRecordAt limits place input found

within : {X : Type 0} (xs ys : List X) (place : ℕ) (x : X) → slice_get xs place ≡ Some x → slice_get (xs ++ ys) place ≡ Some x
within [] ys place x e = absurd (cc e)
within (y ∷ xs) ys zero x e = e
within (y ∷ xs) ys (suc place) x e = within xs ys place x e

past : {X : Type 0} (xs ys : List X) (left place : ℕ) → length xs + left ≡ place → slice_get (xs ++ ys) place ≡ slice_get ys left
past [] ys left place e = let same : place ≡ left = omega (arith, e) in rw same refl
past (x ∷ xs) ys left zero e = absurd (omega (arith, e))
past (x ∷ xs) ys left (suc place) e = past xs ys left place (omega (arith, e))

more : (limits : LimitValues) (rest : List ℕ) (left later : ℕ) (reported : FieldReport) → TellsFields limits rest (Ok reported) → length reported.items + later ≡ left
    → (found : Option Run) → IsRecordAt limits later (drop reported.taken rest) found → IsRecordAt limits left rest found
more limits rest left later reported tells e (Some run) (messages, begins, at) =
    (reported ∷ messages, (tells, begins), past reported.items (records_of messages) later left e ∙ at)
more limits rest left later reported tells e None (messages, stop, are, few) =
    let n = length-append reported.items (records_of messages) in
    (reported ∷ messages, stop, (tells, are), omega (arith, n, e, few))

-- something is left
pub some_left : (rest : List ℕ) (empty : Bool) → empty ≡ (length rest == 0) → empty ≡ false → rest ≢ []
some_left [] empty e some none = let t : true ≡ false = sym e ∙ some in cc
some_left (octet ∷ rest) empty e some none = let n = ap length none in absurd (omega (arith, n))

-- nothing is left
pub all_read : (rest : List ℕ) (empty : Bool) → empty ≡ (length rest == 0) → empty ≡ true → rest ≡ []
all_read [] empty e none = refl
all_read (octet ∷ rest) empty e none = let n = eqb-true (length (octet ∷ rest)) 0 (sym e ∙ none) in absurd (omega (arith, n))

-- a message without the record
pub keeps_next : (limits : LimitValues) (input rest : List ℕ) (place left later : ℕ) (reported : FieldReport) → KeepsOn limits input rest place left
    → TellsFields limits rest (Ok reported) → length reported.items + later ≡ left → KeepsOn limits input (drop reported.taken rest) place later
keeps_next limits input rest place left later reported keeps tells e found h = keeps found (more limits rest left later reported tells e found h)

-- a message with the record
pub found_here : (limits : LimitValues) (input rest : List ℕ) (place left : ℕ) (reported : FieldReport) (run : Run) → KeepsOn limits input rest place left
    → TellsFields limits rest (Ok reported) → slice_get reported.items left ≡ Some run → IsRecordAt limits place input (Some run)
found_here limits input rest place left reported run keeps tells e =
    keeps (Some run) (reported ∷ [], (tells, tt), within reported.items [] left run e)

-- no message is left
pub none_left : (limits : LimitValues) (input rest : List ℕ) (place left : ℕ) → KeepsOn limits input rest place left → rest ≡ [] → IsRecordAt limits place input None
none_left limits input rest place left keeps e = keeps None ([], End, e, omega arith)

-- what is left is refused
pub none_read : (limits : LimitValues) (input rest : List ℕ) (place left : ℕ) (refusal : Refusal) → KeepsOn limits input rest place left → rest ≢ []
    → Refuses IsTypedPayload TypedReason limits rest refusal → IsRecordAt limits place input None
none_read limits input rest place left refusal keeps some refuses = keeps None ([], Refused refusal, (some, refuses), omega arith)
