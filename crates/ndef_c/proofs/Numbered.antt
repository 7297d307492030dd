-- Payloads that are one number.
use Rattle.std.proofs.Common.{◌≡◌, ◌≢◌, ℕ, ◌^◌, ◌<◌, List, length, Option, None, Some, refl, sym, ◌∙◌, ap, arith, inl, inr}
use Rattle.std.proofs.Math.Decide.{dec_lt}
use Rattle.std.specs.Prelude.{IfNone, IfSome}
use Rattle.ndef_format.specs.Nested.{IsPayload}
use Rattle.ndef_format.specs.Reasons.{NoReason}
use Rattle.ndef_format.specs.declared.kind.Kind.{Kind}
use Rattle.ndef_format.specs.declared.kind.Kind.TheVariants as kinds
use Rattle.ndef_format.specs.declared.profile.Profile.TheVariants.{Strict}
use Rattle.ndef_format.specs.declared.reason.Reason.TheVariants.{DoesNotFit}
use Rattle.ndef_lang.specs.Place.{CanEnd}
use Rattle.ndef_types.specs.Decoding.{RefusesPayload}
use Rattle.ndef_c.specs.Numbers.{NumbersAreRefused, WritesNumber, number_of, number_size}

-- a payload of the kind has as many octets
size_of : (kind : Kind) (size : ℕ) (s : List ℕ) → number_size kind ≡ Some size → IsPayload kind Strict s → number_size kind ≡ Some (length s)
size_of kinds.Action size s e h = ap (λ n. Some n) (sym h.1)
size_of kinds.Size size s e h = ap (λ n. Some n) (sym h.1)
size_of kinds.Collision size s e h = ap (λ n. Some n) (sym h.1)
size_of _ size s e h = absurd (cc)

-- none has the length of one with more or fewer
none_ends : (kind : Kind) (size : ℕ) (s : List ℕ) → number_size kind ≡ Some size → number_size kind ≢ Some (length s) → CanEnd (IsPayload kind Strict) s 0 → ⊥
none_ends kind size s e n (r, (h, l)) = n (size_of kind size r e h ∙ ap (λ k. Some k) (omega (arith, l)))

pub numbers_refused : NumbersAreRefused
numbers_refused kind size payload out e r =
    record { refusal = record { at = 0; reason = DoesNotFit }; refused = by_length (dec_lt (length payload) (2 ^ 32)); place = r.place; records = r.records; reason = r.reason }
  where
    by_length : Dec (length payload < 2 ^ 32) → RefusesPayload (IsPayload kind Strict) (λ s b. NoReason) payload (record { at = 0; reason = DoesNotFit })
    by_length (yes h) = inr (h, inl (none_ends kind size payload e r.size, refl, refl))
    by_length (no h) = inl (omega (arith, h), refl, refl)

-- as many octets are a number
pub number_there : (kind : Kind) (s : List ℕ) (n : Option ℕ) → number_size kind ≡ Some (length s) → IfNone n (number_size kind ≢ Some (length s)) → IfSome n (λ k. WritesNumber kind k s) → n ≡ Some (number_of kind s)
number_there kind s None e none some = absurd (none e)
number_there kind s (Some k) e none some = ap (λ m. Some m) some.1
