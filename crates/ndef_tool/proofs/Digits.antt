-- Digits for whose bytes there was no memory.
use Rattle.std.proofs.Common.{◌≡◌, ℕ, ◌+◌, ◌%◌, ◌<◌, ◌⊎◌, inl, inr, true, false, List, [], ◌∷◌, length, take, slice_index, Result, Ok, Err, refl, sym, ◌∙◌, ap, arith}
use Rattle.std.specs.List.{AllPass}
use Rattle.std.proofs.lemmas.Bool.{cases_order, false≢true}
use Rattle.std.proofs.lemmas.List.{get_or-take, length-take-le}
use Rattle.std.proofs.lemmas.List.Elements.{All-get_or}
use Rattle.hex.proofs.HexLemmas.{decode_of-digits, decode_of-err, decode_of-ok}
use Rattle.hex.specs.Hex.{decode_of, decode_pairs, is_hex_digit}
use Rattle.hex.specs.declared.error.FromHexError.{FromHexError}
use Rattle.hex.specs.declared.error.FromHexError.TheVariants.{InvalidHexCharacter, OddLength}
use Rattle.ndef_cli.specs.Outcomes.{fault_of}
use Rattle.ndef_cli.specs.declared.outcome.HexFault.TheVariants.{BadDigit}

-- one of some digits is a digit
digit_at : (s : List ℕ) (j k : ℕ) → j < k → k < length s → AllPass is_hex_digit (take k s) → is_hex_digit (slice_index s j) ≡ true
digit_at s j k less within all =
    ap is_hex_digit (sym (get_or-take k s j 0 less)) ∙ All-get_or (λ x. is_hex_digit x ≡ true) (take k s) j 0 (omega (arith, length-take-le k s)) all

-- the first that is none is the fault of an even number
pub first_bad : (s : List ℕ) (k : ℕ) → length s % 2 ≡ 0 → k < length s → AllPass is_hex_digit (take k s) → is_hex_digit (slice_index s k) ≡ false
    → (error : FromHexError) × (decode_of s ≡ Err error) × (BadDigit k ≡ fault_of error)
first_bad s k even within all bad = by_result (decode_of s) refl
  where
    by_result : (r : Result (List ℕ) FromHexError) → decode_of s ≡ r → (error : FromHexError) × (decode_of s ≡ Err error) × (BadDigit k ≡ fault_of error)
    by_result (Ok bytes) e =
        let d = decode_of-ok s bytes e in
        absurd (false≢true (sym bad ∙ All-get_or (λ x. is_hex_digit x ≡ true) s k 0 within d.1))
    by_result (Err error) e = (error, e, by_error (decode_of-err s error e))
      where
        by_error : ((length s % 2 ≡ 1) × (error ≡ OddLength))
            ⊎ ((j : ℕ) × (error ≡ InvalidHexCharacter (slice_index s j) (0 + j)) × (j < length s) × (is_hex_digit (slice_index s j) ≡ false) × AllPass is_hex_digit (take j s))
            → BadDigit k ≡ fault_of error
        by_error (inl odd) = absurd (omega (arith, odd.0, even))
        by_error (inr f) =
            elim (cases_order f.0 k) [
              | inl same ↦ let q : k ≡ 0 + f.0 = omega (arith, same) in ap BadDigit q ∙ sym (ap fault_of f.1)
              | inr (inl less) ↦ absurd (false≢true (sym f.3 ∙ digit_at s f.0 k less within all))
              | inr (inr more) ↦ absurd (false≢true (sym bad ∙ digit_at s k f.0 more f.2 f.4))
            ]

-- no digits are those of no bytes
pub none_decoded : (s : List ℕ) → length s ≡ 0 → decode_of s ≡ Ok s
unfolding decode_pairs
none_decoded [] e = refl
none_decoded (x ∷ s) e = absurd (omega arith)

-- an even number of digits, and not none, are those of some bytes
pub some_decoded : (s : List ℕ) → 0 < length s → length s % 2 ≡ 0 → AllPass is_hex_digit s → (bytes : List ℕ) × (decode_of s ≡ Ok bytes) × (0 < length bytes)
some_decoded s some even all =
    let d = decode_of-digits s even all in
    (d.0, d.1, omega (arith, some, (decode_of-ok s d.0 d.1).2))
