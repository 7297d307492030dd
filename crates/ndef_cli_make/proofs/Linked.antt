-- The meaning of the words of a handover.
use Rattle.std.proofs.Common.{◌≡◌, ◌∙◌, ℕ, List, [], ◌∷◌, Option, None, Some, Err, sym, ap, ap₂, subst, arith}
use Rattle.std.specs.Prelude.{option_and_then}
use Rattle.clap.specs.Words.{Text}
use Rattle.ndef_types.specs.Values.{AcValue, ErrorValue}
use Rattle.ndef_types.specs.declared.power.Power.{Power}
use Rattle.ndef_cli_make.specs.CarrierWords.{link_read, link_said, references_left}
use Rattle.ndef_cli_make.specs.Handovers.{ChecksReferences, AsksError, MakesAlternative, MakesError, ac_of, ac_said, error_of_words, error_said}
use Rattle.ndef_cli_make.specs.Octets.{SaysOctets, octets_in}
use Rattle.ndef_cli_make.specs.Options.{cut_at, is_colon, number_below}
use Rattle.ndef_cli_make.specs.Records.{Answer, MakesSaid}
use Rattle.ndef_cli_make.specs.declared.carrier_word.Linked.{Linked}
use Rattle.ndef_cli_make.specs.declared.fault.Fault.{Fault}
use Rattle.ndef_cli_make.specs.declared.fault.Fault.TheVariants.{Usage, Refused, Memory}
use Rattle.ndef_cli_make.specs.declared.fault.Refused.TheVariants as refused
use Rattle.ndef_cli_make.specs.declared.usage_error.UsageError.TheVariants as usage_error

-- ---- carriers

bad_carrier : (power : Power) (references : List Text) (fault : Fault) → ChecksReferences references (Err fault) → MakesSaid usage_error.Carrier MakesAlternative (ac_of power references) (Err fault)
bad_carrier power [] (Refused refused.PartTooLong) h = absurd (h tt)
bad_carrier power [] (Refused refused.TooManyReferences) h = absurd (omega (arith, h.1))
bad_carrier power (reference ∷ auxiliary) (Refused refused.PartTooLong) h = h
bad_carrier power (reference ∷ auxiliary) (Refused refused.TooManyReferences) h = (h.0, omega (arith, h.1))
bad_carrier power references _ h = absurd h

-- what is made of the carrier for which a word stands
pub carrier_made : (word : Text) (linked : Linked) (answer : Answer) → Some (link_read linked) ≡ link_said word
    → MakesSaid usage_error.Carrier MakesAlternative (ac_of linked.power (references_left linked.references)) answer → MakesSaid usage_error.Carrier MakesAlternative (ac_said word) answer
carrier_made word linked answer said h =
    subst (λ (o : Option AcValue). MakesSaid usage_error.Carrier MakesAlternative o answer) (ap (option_and_then (λ link. ac_of link.0 link.1)) said) h

-- a carrier whose references are too long or too many
pub carrier_refused : (word : Text) (linked : Linked) (fault : Fault) → Some (link_read linked) ≡ link_said word → ChecksReferences (references_left linked.references) (Err fault)
    → MakesSaid usage_error.Carrier MakesAlternative (ac_said word) (Err fault)
carrier_refused word linked fault said h = carrier_made word linked (Err fault) said (bad_carrier linked.power (references_left linked.references) fault h)

-- ---- errors

-- the error that is said
pub error_of_parts : (word reason digits : Text) (number : ℕ) (detail : List ℕ) → cut_at is_colon word ≡ Some (reason, digits) → number_below 256 reason ≡ Some number
    → octets_in digits ≡ Some detail → error_said word ≡ Some (record { reason = number; detail = detail })
error_of_parts word reason digits number detail cut is some =
    ap (option_and_then (λ cut. error_of_words (number_below 256 cut.0) (octets_in cut.1))) cut ∙ ap₂ error_of_words is some

-- what is made of it
pub error_asked : (word : Text) (v : ErrorValue) (answer : Answer) → error_said word ≡ Some v → MakesError v answer → AsksError word answer
error_asked word v (Err Memory) said h = (v, said)
error_asked word v answer said h = subst (λ (o : Option ErrorValue). MakesSaid usage_error.Reason MakesError o answer) (sym said) h

-- an error whose data are none
pub error_unsaid : (word reason digits : Text) (number : ℕ) (fault : Fault) → cut_at is_colon word ≡ Some (reason, digits) → number_below 256 reason ≡ Some number
    → SaysOctets usage_error.Reason digits (Err fault) → AsksError word (Err fault)
error_unsaid word reason digits number (Usage m) cut is (reported, none) =
    let said : error_said word ≡ None =
    ap (option_and_then (λ cut. error_of_words (number_below 256 cut.0) (octets_in cut.1))) cut ∙ ap₂ error_of_words is none in
    subst (λ (o : Option ErrorValue). MakesSaid usage_error.Reason MakesError o (Err (Usage m))) (sym said) (ap (λ reported. Err (Usage reported)) reported)
error_unsaid word reason digits number Memory cut is some =
    (record { reason = number; detail = some.0 }, error_of_parts word reason digits number some.0 cut is some.1)
error_unsaid word reason digits number _ cut is none = absurd none
