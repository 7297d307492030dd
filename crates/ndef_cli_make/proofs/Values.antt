-- The records of texts and URIs.
use Rattle.std.proofs.Common.{◌≡◌, ◌∙◌, ◌<◌, ◌≤◌, ◌^◌, ℕ, List, length, Err, Ok, refl, sym, ap, subst, arith, rules}
use Rattle.std.specs.Prelude.{codes, IsAscii, IsErrOf, Result}
use Rattle.clap.specs.Words.{Text}
use Rattle.ndef_format.specs.Canonical.{HasLengths}
use Rattle.ndef_format.specs.Messages.{IsShaped, Item}
use Rattle.ndef_value.specs.declared.record.RecordError.{RecordError}
use Rattle.ndef_value.specs.declared.record.RecordError.TheVariants as records
use Rattle.ndef_cli_make.specs.Faults.{record_fault}
use Rattle.ndef_types.specs.Decoding.{IsTooLong}
use Rattle.ndef_types.specs.declared.error.EncodeError.TheVariants.{TooLong}
use Rattle.ndef_types.specs.Values.{IsTextValue, TextValue, WritesUri, text_payload}
use Rattle.ndef_cli_make.specs.Records.{MakesItem, MakesText, MakesUri, typed_record}

-- the result for a record that isn't made
abbrev pub unmade_item : RecordError → Result Item RecordError
unmade_item error = Err error

never : (p : List ℕ) → IsErrOf (Ok p) TooLong → ⊥
never p h = absurd (search rules)

-- the record of a text whose payload is written
pub made_text : (v t : TextValue) (p : List ℕ) (i : Item) → t ≡ v → IsTextValue t → p ≡ text_payload t → (2 ^ 32 ≤ length (text_payload t) → IsErrOf (Ok p) TooLong) → i ≡ typed_record (codes "T") p
    → MakesText v (Ok i)
made_text v t p i same is written short made =
    let payload : i.payload ≡ p = ap (λ (j : Item). j.payload) made in
    let bound : 2 ^ 32 ≤ length (text_payload t) → ⊥ = λ h. never p (short h) in
    let room : length i.payload < 2 ^ 32 = omega (arith, bound, ap length (payload ∙ written)) in (
      subst (λ (x : TextValue). length x.language ≤ 63) same is.short,
      subst (λ (x : TextValue). IsAscii x.language) same is.language,
      payload ∙ written ∙ ap text_payload same,
      room,
      made ∙ ap (typed_record (codes "T")) (sym payload),
    )

-- the record of a URI whose payload is written
pub made_uri : (uri u : Text) (p : List ℕ) (i : Item) → u ≡ uri → WritesUri u p → (IsTooLong WritesUri u → IsErrOf (Ok p) TooLong) → i ≡ typed_record (codes "U") p → MakesUri uri (Ok i)
made_uri uri u p i same written short made =
    let payload : i.payload ≡ p = ap (λ (j : Item). j.payload) made in
    let bound : 2 ^ 32 ≤ length p → ⊥ = λ h. never p (short (p, written, h)) in
    let room : length i.payload < 2 ^ 32 = omega (arith, bound, ap length payload) in (
      subst (WritesUri uri) (sym payload) (subst (λ v. WritesUri v p) same written),
      room,
      made ∙ ap (typed_record (codes "U")) (sym payload),
    )

-- ---- records of given parts

shapeless : IsErrOf (unmade_item records.NoMemory) records.BadShape → ⊥
shapeless h = absurd (search rules)

endless : IsErrOf (unmade_item records.NoMemory) records.TooLong → ⊥
endless h = absurd (search rules)

-- a record that isn't made
pub item_unmade : (i : Item) (error : RecordError) → (IsErrOf (unmade_item error) records.BadShape → IsShaped i → ⊥) → ((IsShaped i → ⊥) → IsErrOf (unmade_item error) records.BadShape)
    → (IsErrOf (unmade_item error) records.TooLong → IsShaped i × (HasLengths i → ⊥)) → (IsShaped i × (HasLengths i → ⊥) → IsErrOf (unmade_item error) records.TooLong)
    → MakesItem i (Err (record_fault error))
item_unmade i records.BadShape bad shaped long short = bad refl
item_unmade i records.TooLong bad shaped long short = long refl
item_unmade i records.NoMemory bad shaped long short =
    let shape : (IsShaped i → ⊥) → ⊥ = λ no. shapeless (shaped no) in
    (shape, λ no. shape (λ s. endless (short (s, no))))
