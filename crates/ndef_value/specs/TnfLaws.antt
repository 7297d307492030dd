-- The numbers of type name formats.
use Rattle.std.proofs.Common.{◌≡◌, ◌≢◌, ℕ, zero, suc, ◌<◌, refl, sym, ◌∙◌, ap, arith}
use Rattle.ndef_format.specs.Records.{code, tnf_of, IsRead}
use Rattle.ndef_format.specs.declared.profile.Profile.{Profile}
use Rattle.ndef_format.specs.declared.profile.Profile.TheVariants.{Strict, Standard}
use Rattle.ndef_format.specs.declared.tnf.Tnf.{Tnf}
use Rattle.ndef_format.specs.declared.tnf.Tnf.TheVariants.{Empty, WellKnown, Media, AbsoluteUri, External, Unknown, Unchanged}

pub same_tnf : (t : Tnf) → tnf_of (code t) ≡ t
same_tnf Empty = refl
same_tnf WellKnown = refl
same_tnf Media = refl
same_tnf AbsoluteUri = refl
same_tnf External = refl
same_tnf Unknown = refl
same_tnf Unchanged = refl

pub code_below : (t : Tnf) → code t < 7
code_below Empty = omega arith
code_below WellKnown = omega arith
code_below Media = omega arith
code_below AbsoluteUri = omega arith
code_below External = omega arith
code_below Unknown = omega arith
code_below Unchanged = omega arith

pub read_code : (profile : Profile) (n : ℕ) → n < 7 → IsRead profile n
read_code Strict n h = h
read_code Standard n h = omega arith

pub changed_code : (t : Tnf) → t ≢ Unchanged → code t ≢ 6
changed_code t d e = d (sym (same_tnf t) ∙ ap tnf_of e)

-- a number that a strict reader reads, each reader reads
pub read_by_all : (profile : Profile) (n : ℕ) → IsRead Strict n → IsRead profile n
read_by_all Strict n h = h
read_by_all Standard n h = omega arith

-- a number below 8 other than 6 does not denote Unchanged
pub changed_name : (n : ℕ) → n < 8 → n ≢ 6 → tnf_of n ≢ Unchanged
changed_name zero h d = λ e. cc
changed_name (suc zero) h d = λ e. cc
changed_name (suc (suc zero)) h d = λ e. cc
changed_name (suc (suc (suc zero))) h d = λ e. cc
changed_name (suc (suc (suc (suc zero)))) h d = λ e. cc
changed_name (suc (suc (suc (suc (suc zero))))) h d = λ e. cc
changed_name (suc (suc (suc (suc (suc (suc zero)))))) h d = absurd (d refl)
changed_name (suc (suc (suc (suc (suc (suc (suc zero))))))) h d = λ e. cc
changed_name (suc (suc (suc (suc (suc (suc (suc (suc n)))))))) h d = absurd (omega arith)
