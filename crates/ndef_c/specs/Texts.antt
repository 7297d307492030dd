-- The texts that may be written, and the results for those that are read.
use Rattle.std.specs.Prelude.{◌≡◌, ℕ, ◌≤◌, ◌^◌, ◌<◌, ◌==◌, Bool, true, List, length, chars, encode_utf8_all, IsAscii, IsUtf8, if◌then◌else◌}
use Rattle.std.specs.Str.{all_scalars}
use Rattle.ndef_format.specs.Texts.{IsText, spelled, units_of}
use Rattle.ndef_types.specs.Values.{TextValue, StandsForText, text_payload}
use Rattle.ndef_types.specs.declared.encoding.Encoding.{Encoding}
use Rattle.ndef_types.specs.declared.encoding.Encoding.TheVariants.{Utf8, Utf16}
use Rattle.ndef_c.specs.Buffers.{Gives}

-- ---- reading

-- RFC 2781, section 2.1: the octets are those of the units of these characters
pub record AreSpelled (little : Bool) (cs octets : List ℕ) : Type 0 where
  pub scalars : all_scalars cs ≡ true
  pub are : spelled little (units_of cs) ≡ octets

-- RTD Text 1.0: the payload is that of a text, which is given in UTF-8
pub record GivesText (payload before after : List ℕ) (count status : ℕ) : Type 0 where
  pub in_set : IsText payload
  pub short : length payload < 2 ^ 32
  pub text : TextValue
  pub stands : StandsForText payload text
  pub gives : Gives (encode_utf8_all text.text) before after count status

-- ---- writing

-- 1 selects UTF-16
abbrev pub encoding_of : ℕ → Encoding
encoding_of flags = if flags == 1 then Utf16 else Utf8

-- RTD Text 1.0: the text with that language code, in the encoding that is requested
abbrev pub asked_text : (flags : ℕ) (language text : List ℕ) → TextValue
asked_text flags language text =
    record { encoding = encoding_of flags; language = language; text = chars text }

-- RTD Text 1.0: a language code of up to 63 octets of ASCII and a text, given in UTF-8
pub record MayBeSpelled (flags : ℕ) (language text : List ℕ) : Type 0 where
  pub known : flags ≤ 1
  pub short : length language ≤ 63
  pub ascii : IsAscii language
  pub utf8 : IsUtf8 text

-- RTD Text 1.0: and they fit in a payload
pub record MayBeText (flags : ℕ) (language text : List ℕ) : Type 0 where
  pub spelled : MayBeSpelled flags language text
  pub fits : length (text_payload (asked_text flags language text)) < 2 ^ 32
