use Rattle.std.proofs.Common.{◌≡◌, ◌∙◌, List, ℕ, Some, None, arith, subst, sym}
use Rattle.ndef_cli_make.specs.Octets.{octets_in}
use Rattle.ndef_cli_make.proofs.Digits.{itself, none_of_bad, none_of_odd, some_of}
use Rattle.ndef_cli_make.proofs.octets.octets_in.Goals as goal
use Rattle.ndef_cli_make.proofs.octets.octets_in.Goals.{then-digits-ne0-via-then-digits-ne0, then-digits-ne0-via-else-digits-ne0+then-not-are_digits}

pub returns-then-digits-ne0 : goal.returns-then-digits-ne0
returns-then-digits-ne0 c =
    let s = c.as_bytes-digits.result.now in (
      itself c.args.usage_error,
      subst (λ (t : List ℕ). octets_in t ≡ None) c.as_bytes-digits.ensures.value (elim c.then-digits-ne0.branch [
        | then-digits-ne0-via-then-digits-ne0 w ↦ none_of_odd s (λ even. omega (arith, w.if-digits-ne0.true, even))
        | then-digits-ne0-via-else-digits-ne0+then-not-are_digits w ↦ none_of_bad s (sym w.are_digits.ensures ∙ w.if-not-are_digits.true)
      ]),
    )

pub returns-in-Err : goal.returns-in-Err
returns-in-Err c =
    let s = c.as_bytes-digits.result.now in
    subst (λ (t : List ℕ). (octets : List ℕ) × (octets_in t ≡ Some octets)) c.as_bytes-digits.ensures.value
    (some_of s (omega (arith, c.if-digits-ne0.false)) (sym c.are_digits.ensures ∙ c.if-not-are_digits.false))
