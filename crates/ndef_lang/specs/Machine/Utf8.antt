-- UTF-8 texts (RFC 3629).
use Rattle.std.specs.Prelude.{ℕ, zero, suc, ◌≤◌, List, [], ◌∷◌, IsUtf8}
use Rattle.ndef_format.specs.declared.reason.Reason.{Reason}
use Rattle.ndef_format.specs.declared.reason.Reason.TheVariants as reasons
use Rattle.ndef_lang.specs.declared.lengths.Lengths.{Lengths}
use Rattle.ndef_lang.specs.declared.lengths.Lengths.TheVariants.{Never, From}
use Rattle.ndef_lang.specs.declared.utf8.Utf8Lang.{Utf8Lang}
use Rattle.ndef_lang.specs.declared.utf8.Utf8Lang.TheVariants.{Whole, OneMore, TwoMore, ThreeMore, AfterE0, AfterEd, AfterF0, AfterF4, Refused}
use Rattle.ndef_lang.specs.Language.{Continues}

-- RFC 3629, section 4: n octets of a character, the first of them least to most, and then a text
abbrev pub EndsCharacter : (n least most : ℕ) → List ℕ → Type 0
EndsCharacter zero least most r = IsUtf8 r
EndsCharacter (suc n) least most [] = ⊥
EndsCharacter (suc n) least most (b ∷ r) = (least ≤ b) × (b ≤ most) × EndsCharacter n 0x80 0xbf r

-- the octets that complete a text
abbrev pub CompletesUtf8 : Utf8Lang → List ℕ → Type 0
CompletesUtf8 Whole r = IsUtf8 r
CompletesUtf8 OneMore r = EndsCharacter 1 0x80 0xbf r
CompletesUtf8 TwoMore r = EndsCharacter 2 0x80 0xbf r
CompletesUtf8 ThreeMore r = EndsCharacter 3 0x80 0xbf r
CompletesUtf8 AfterE0 r = EndsCharacter 2 0xa0 0xbf r
CompletesUtf8 AfterEd r = EndsCharacter 2 0x80 0x9f r
CompletesUtf8 AfterF0 r = EndsCharacter 3 0x90 0xbf r
CompletesUtf8 AfterF4 r = EndsCharacter 3 0x80 0x8f r
CompletesUtf8 Refused r = ⊥

-- the octets so far of a text
abbrev pub Utf8Reached : Utf8Lang → List ℕ → Type 0
Utf8Reached state s = Continues IsUtf8 (CompletesUtf8 state) s

-- the reason of the octet taken last
abbrev pub utf8_reason : Utf8Lang → Reason
utf8_reason Refused = reasons.Utf8
utf8_reason _ = reasons.DoesNotFit

-- the lengths of the octets that complete a text
abbrev pub utf8_lengths : Utf8Lang → Lengths
utf8_lengths Whole = From 0
utf8_lengths OneMore = From 1
utf8_lengths TwoMore = From 2
utf8_lengths ThreeMore = From 3
utf8_lengths AfterE0 = From 2
utf8_lengths AfterEd = From 2
utf8_lengths AfterF0 = From 3
utf8_lengths AfterF4 = From 3
utf8_lengths Refused = Never
