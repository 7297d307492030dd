-- Type name formats by their numbers.
use Rattle.std.proofs.Common.{◌≡◌, ◌≢◌, ℕ, zero, suc, ◌<◌, refl, arith}
use Rattle.std.specs.Prelude.{◌↔◌}
use Rattle.ndef_format.specs.Records.{HasShape, IsRead, tnf_of}
use Rattle.ndef_format.specs.declared.profile.Profile.{Profile}
use Rattle.ndef_format.specs.declared.profile.Profile.TheVariants.{Strict, Standard}

-- the shapes that they ask for: of 0 nothing but the head, of 1 to 4 a type, of the others none
pub data Sort (t : ℕ) : Type 0 where
  empty : t ≡ 0 → Sort t
  named : 0 < t → t < 5 → ((k i n : ℕ) → HasShape (tnf_of t) k i n ↔ (0 < k)) → Sort t
  unnamed : 4 < t → ((k i n : ℕ) → HasShape (tnf_of t) k i n ↔ (k ≡ 0)) → Sort t

-- each number below 8 is one of these
pub sort : (t : ℕ) → t < 8 → Sort t
sort zero h = empty refl
sort (suc zero) h = named (omega arith) (omega arith) (λ k i n. (λ s. s, λ s. s))
sort (suc (suc zero)) h = named (omega arith) (omega arith) (λ k i n. (λ s. s, λ s. s))
sort (suc (suc (suc zero))) h = named (omega arith) (omega arith) (λ k i n. (λ s. s, λ s. s))
sort (suc (suc (suc (suc zero)))) h = named (omega arith) (omega arith) (λ k i n. (λ s. s, λ s. s))
sort (suc (suc (suc (suc (suc zero))))) h = unnamed (omega arith) (λ k i n. (λ s. s, λ s. s))
sort (suc (suc (suc (suc (suc (suc zero)))))) h = unnamed (omega arith) (λ k i n. (λ s. s, λ s. s))
sort (suc (suc (suc (suc (suc (suc (suc zero))))))) h = unnamed (omega arith) (λ k i n. (λ s. s, λ s. s))
sort (suc (suc (suc (suc (suc (suc (suc (suc t)))))))) h = absurd (omega arith)

-- the payload length of a record that is not empty is free
pub other_payload : (t : ℕ) → t < 8 → (k i n m : ℕ) → HasShape (tnf_of t) k i n → t ≢ 0 → HasShape (tnf_of t) k i m
other_payload t h k i n m s e =
    elim (sort t h) [
      | empty z ↦ absurd (e z)
      | named a b f ↦ (f k i m).1 ((f k i n).0 s)
      | unnamed a f ↦ (f k i m).1 ((f k i n).0 s)
    ]

-- an empty record has no id and no payload
pub empty_lengths : (t k i n : ℕ) → HasShape (tnf_of t) k i n → t ≡ 0 → (i ≡ 0) × (n ≡ 0)
empty_lengths t k i n s e =
    let s' = rw e at s in
    (s'.1, s'.2)

-- ---- the numbers that are read

-- a number that is read is below 8
pub read_small : (profile : Profile) (n : ℕ) → IsRead profile n → n < 8
read_small Strict n h = omega arith
read_small Standard n h = h
