-- The inputs, one after another.
use Rattle.std.proofs.Common.{◌≡◌, ◌∙◌, ◌+◌, ◌<◌, ℕ, suc, Bool, false, List, [], ◌∷◌, Result, Ok, Err, ap, arith, drop, drop-cons, get_or, length, map, refl, subst, sym}
use Rattle.std.specs.Prelude.{codes}
use Rattle.std.specs.Borrow.{Bor}
use Rattle.std.proofs.lemmas.List.{drop-map}
use Rattle.ndef_message.specs.declared.input.InputError.{InputError}
use Rattle.ndef_message.specs.declared.sending.WriteFault.{WriteFault}
use Rattle.ndef_cli.specs.Quoting.{Text}
use Rattle.ndef_cli.specs.declared.status.Status.{Status}
use Rattle.ndef_cli.specs.declared.status.Status.TheVariants as status
use Rattle.ndef_cli.specs.Inputs.{GivesInput}
use Rattle.ndef_cli_explain.specs.Reporting.{TellsNext}
use Rattle.ndef_cli_explain.specs.Running.{TellsAll, TellsAsked, World, course, report_options_of}
use Rattle.ndef_cli.specs.Statuses.{worse}
use Rattle.ndef_cli_explain.specs.declared.choice.ExplainChoice.{ExplainChoice}
use Rattle.ndef_cli_explain.specs.declared.reporting.ReportOptions.{ReportOptions}

-- what continues with the rest of the inputs continues with all of them
abbrev pub KeepsOn : {I : Type 0} → GivesInput I → ReportOptions → (names left : List Text) → Status → Status → (first next : World I) → Type 0
KeepsOn {I} gives options names left begun st first next =
    (after : World I) (result : Status) → TellsAll gives options left st (course next after result) → TellsAll gives options names begun (course first after result)

-- one input more
pub keeps_next : {I : Type 0} (gives : GivesInput I) (options : ReportOptions) (names left rest : List Text) (name : Text) (begun st reported : Status) (first next middle : World I)
    (read : Result (List ℕ) InputError) → KeepsOn gives options names left begun st first next → left ≡ name ∷ rest → gives next.inputs name read middle.inputs
    → TellsNext options name read next.output middle.output (Ok reported) → KeepsOn gives options names rest begun (worse st reported) first middle
keeps_next gives options names left rest name begun st reported first next middle read keeps e g t after result h =
    keeps after result (subst (λ x. TellsAll gives options x st (course next after result)) (sym e) (read, middle, Ok reported, g, t, h))

-- writing fails after an input
pub keeps_failed : {I : Type 0} (gives : GivesInput I) (options : ReportOptions) (names left rest : List Text) (name : Text) (begun st : Status) (fault : WriteFault) (first next middle : World I)
    (read : Result (List ℕ) InputError) → KeepsOn gives options names left begun st first next → left ≡ name ∷ rest → gives next.inputs name read middle.inputs
    → TellsNext options name read next.output middle.output (Err fault) → TellsAll gives options names begun (course first middle status.Fault)
keeps_failed gives options names left rest name begun st fault first next middle read keeps e g t =
    keeps middle status.Fault (subst (λ x. TellsAll gives options x st (course next middle status.Fault)) (sym e) (read, middle, Err fault, g, t, (refl, refl)))

-- the names that are left
pub names_left : {A B : Type 0} (f : A → B) (xs : List A) (n : ℕ) (d : A) → n < length xs → drop n (map f xs) ≡ f (get_or xs n d) ∷ drop (n + 1) (map f xs)
names_left f xs n d l =
    let next : suc n ≡ n + 1 = omega arith in
    drop-map f n xs ∙ ap (map f) (drop-cons xs n d l) ∙ ap (λ ys. f (get_or xs n d) ∷ ys) (sym (drop-map f (suc n) xs) ∙ ap (λ k. drop k (map f xs)) next)

-- no file is named
pub no_files : {I : Type 0} (gives : GivesInput I) (takes_color : Bool) (choice : ExplainChoice) (files : List (Bor Text)) (before after : World I) (result : Status) → length files ≡ 0
    → TellsAll gives (report_options_of choice takes_color false) (codes "-" ∷ []) status.Clean (course before after result)
    → TellsAsked gives takes_color (choice, map (λ file. file.now) files) (course before after result)
no_files gives takes_color choice [] before after result e h = h
no_files gives takes_color choice (file ∷ files) before after result e h = absurd (omega (arith, e))
