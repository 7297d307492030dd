-- UTF-16 texts, with and without a byte order mark (RFC 2781).
use Rattle.std.specs.Prelude.{◌≡◌, ℕ, ◌<◌, ◌≤◌, nat_lt, nat_le, not, Bool, true, false, ◌&&◌, ◌||◌, if◌then◌else◌, List, [], ◌∷◌}
use Rattle.ndef_format.specs.declared.reason.Reason.{Reason}
use Rattle.ndef_format.specs.declared.reason.Reason.TheVariants as reasons
use Rattle.ndef_lang.specs.declared.lengths.Lengths.{Lengths}
use Rattle.ndef_lang.specs.declared.lengths.Lengths.TheVariants.{Never, PairsFrom}
use Rattle.ndef_lang.specs.declared.utf16.Utf16State.{Utf16State}
use Rattle.ndef_lang.specs.declared.utf16.Utf16State.TheVariants.{Start, First, Whole, Half, Refused}
use Rattle.ndef_lang.specs.Language.{Continues}
use Rattle.ndef_format.specs.Texts.{spelled, IsUnits, IsUtf16}

-- ---- a text that is half read

-- units that complete a text, after the first unit of a pair or not
abbrev pub UnitsRest : (paired : Bool) → List ℕ → Type 0
UnitsRest false us = IsUnits us
UnitsRest true [] = ⊥
UnitsRest true (v ∷ us) = (0xdc00 ≤ v) × (v < 0xe000) × IsUnits us

-- octets that complete a text
abbrev pub SpelledRest : (little paired : Bool) → List ℕ → Type 0
SpelledRest little paired s = (us : List ℕ) × (UnitsRest paired us × (spelled little us ≡ s))

-- octets that complete a text after the unit u
abbrev pub UnitThen : (little paired : Bool) → ℕ → List ℕ → Type 0
UnitThen little paired u r = (us : List ℕ) × (UnitsRest paired (u ∷ us) × (spelled little us ≡ r))

-- the octets that complete a text
abbrev pub CompletesUtf16 : Utf16State → List ℕ → Type 0
CompletesUtf16 Start r = IsUtf16 r
CompletesUtf16 (First a) r = IsUtf16 (a ∷ r)
CompletesUtf16 (Whole little paired) r = SpelledRest little paired r
CompletesUtf16 (Half little paired a) r = SpelledRest little paired (a ∷ r)
CompletesUtf16 Refused r = ⊥

-- ---- lengths

-- the most significant octet of the first unit of a pair, and of the second
abbrev pub is_high_octet : ℕ → Bool
is_high_octet a = nat_le 0xd8 a && nat_lt a 0xdc

-- the most significant octet of the second unit of a pair
abbrev pub is_low_octet : ℕ → Bool
is_low_octet a = nat_le 0xdc a && nat_lt a 0xe0

-- no unit that may come begins with a
abbrev pub begins_none : (little paired : Bool) → ℕ → Bool
begins_none true paired a = nat_le 256 a
begins_none false true a = not (is_low_octet a)
begins_none false false a = is_low_octet a || nat_le 256 a

-- nothing completes the text
abbrev pub utf16_refused : Utf16State → Bool
utf16_refused Start = false
utf16_refused (First a) = begins_none false false a
utf16_refused (Whole little paired) = false
utf16_refused (Half little paired a) = begins_none little paired a
utf16_refused Refused = true

-- the least number of octets that complete it, where some do
abbrev pub utf16_missing : Utf16State → ℕ
utf16_missing Start = 0
utf16_missing (First a) = if is_high_octet a then 3 else 1
utf16_missing (Whole little true) = 2
utf16_missing (Whole little false) = 0
utf16_missing (Half false false a) = if is_high_octet a then 3 else 1
utf16_missing (Half _ _ a) = 1
utf16_missing Refused = 0

-- the lengths of the octets that complete it
abbrev pub utf16_lengths : Utf16State → Lengths
utf16_lengths state = if utf16_refused state then Never else PairsFrom (utf16_missing state)

-- the reason of the octet taken last
abbrev pub utf16_reason : Utf16State → Reason
utf16_reason state = if utf16_refused state then reasons.Utf16 else reasons.DoesNotFit
