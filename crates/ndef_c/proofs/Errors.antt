-- Handover errors: where their data lie, and those whose data are a number.
use Rattle.std.proofs.Common.{List, length, take, drop, ◌∙◌, ap, ◌≡◌, ℕ, ◌<◌, ◌^◌, ◌∷◌, [], ◌⊎◌, inl, inr, refl, rules, arith}
use Rattle.std.specs.Int.{w32, to_be_bytes}
use Rattle.std.proofs.lemmas.Nat.{from_be_bytes-to_be_bytes_4}
use Rattle.ndef_format.specs.Records.{AreOctets}
use Rattle.std.proofs.lemmas.List.{take_all}
use Rattle.ndef_c.specs.Walks.{Lies}
use Rattle.ndef_c.specs.ErrorWrites.{IsErrorOf, error_of}

-- of one octet
pub octet_error : (reason number : ℕ) → (reason ≡ 1) ⊎ (reason ≡ 3) → number < 256 → IsErrorOf reason number (error_of reason (number ∷ []))
octet_error reason number (inl e) h = rw e
    (record { error = (omega arith, ((h, tt), (λ _. refl), (λ f. absurd (omega (arith, f))), (λ _. refl))); reason_is = refl; number_is = refl })
octet_error reason number (inr e) h = rw e
    (record { error = (omega arith, ((h, tt), (λ _. refl), (λ f. absurd (omega (arith, f))), (λ _. refl))); reason_is = refl; number_is = refl })

four_octets : (n : ℕ) → n < 2 ^ 32 → AreOctets (to_be_bytes w32 n)
four_octets n h = search rules

-- of four
pub number_error : (number : ℕ) → number < 2 ^ 32 → IsErrorOf 2 number (error_of 2 (to_be_bytes w32 number))
number_error number h = record {
  error = (omega arith, (four_octets number h, (λ f. absurd (omega (arith, f))), (λ _. refl), (λ f. absurd (omega (arith, f)))));
  reason_is = refl;
  number_is = from_be_bytes-to_be_bytes_4 number h;
}

-- what stands after the first octet lies there
pub lies_after : (reason : ℕ) (detail payload : List ℕ) → payload ≡ reason ∷ detail → Lies payload 1 (length detail) detail
lies_after reason detail payload e = record {
  within = omega (arith, ap length e);
  are = ap (λ s. take (length detail) (drop 1 s)) e ∙ take_all (length detail) detail (omega arith);
  count_is = refl;
}
