-- The content of a record's payload, which is written directly to its place in the buffer.
use Rattle.std.specs.Prelude.{ℕ, ◌+◌, ◌≤◌, false, List, [], ◌∷◌, ◌++◌, length, chars, ⊤}
use Rattle.std.specs.List.{flat_map}
use Rattle.ndef_format.specs.Texts.{spelled, units_of}
use Rattle.ndef_c.specs.AlternativeWrites.{MayBeAlternative, counted_part}
use Rattle.ndef_c.specs.declared.content.Content.{Content}
use Rattle.ndef_c.specs.declared.content.Content.TheVariants as contents
use Rattle.ndef_c.specs.declared.part.NdefPart.{NdefPart}

-- RTD Text 1.0, language code: it has up to 63 octets
abbrev pub IsContent : Content → Type 0
IsContent (contents.Utf8 language text) = length language.now ≤ 63
IsContent (contents.Utf16 language text) = length language.now ≤ 63
IsContent (contents.Uri code rest) = ⊤
IsContent (contents.Alternative power bytes reference auxiliary) =
    MayBeAlternative power bytes.now (reference.now ∷ auxiliary.now)
IsContent (contents.Error reason detail) = ⊤
IsContent (contents.Octets octets) = ⊤

-- Connection Handover 1.2, Alternative Carrier record: a power state, the carrier data reference
-- after its length, and after their number the auxiliary ones, each after its length
abbrev pub alternative_octets : (power : ℕ) → List ℕ → NdefPart → List NdefPart → List ℕ
alternative_octets power bytes reference auxiliary =
    power ∷ (counted_part bytes reference
    ++ length auxiliary ∷ flat_map (counted_part bytes) auxiliary)

-- Connection Handover 1.2, Alternative Carrier record: the payload of a power state and these
-- references, the first of which is the carrier data reference
abbrev pub alternative_payload : (power : ℕ) → List ℕ → List NdefPart → List ℕ
alternative_payload power bytes [] = []
alternative_payload power bytes (reference ∷ auxiliary) =
    alternative_octets power bytes reference auxiliary

-- RTD Text 1.0: a status octet, a language code and a text; RTD URI 1.0: a code and the rest of the
-- URI; Connection Handover 1.2: an alternative carrier, or a reason and its data
abbrev pub content_octets : Content → List ℕ
content_octets (contents.Utf8 language text) = length language.now ∷ (language.now ++ text.now)
content_octets (contents.Utf16 language text) =
    (128 + length language.now) ∷ (language.now
    ++ 0xfe ∷ 0xff ∷ spelled false (units_of (chars text.now)))
content_octets (contents.Uri code rest) = code ∷ rest.now
content_octets (contents.Alternative power bytes reference auxiliary) =
    alternative_octets power bytes.now reference.now auxiliary.now
content_octets (contents.Error reason detail) = reason ∷ detail.now
content_octets (contents.Octets octets) = octets.now
