-- The words for the codes of fields.
use Rattle.std.specs.Prelude.{ℕ, ◌==◌, ◌-◌, ◌%◌, nat_lt, List, [], ◌∷◌, ◌++◌, codes, decimal, map, slice_index_or, if◌then◌else◌}
use Rattle.hex.specs.Hex.{encode_lower}
use Rattle.ndef_types.specs.Prefixes.{prefix_of}
use Rattle.ndef_cli.specs.Quoting.{Text, quoted}
use Rattle.ndef_cli_explain.specs.declared.codes.TheConstants.{ACTION_WORDS, ERROR_WORDS, FORMAT_WORDS, POWER_WORDS, TNF_WORDS}

-- RTD URI 1.0, URI identifier codes: the prefix of a code
abbrev pub prefix_word : ℕ → Text
prefix_word code = if code == 0 then codes "no prefix"
    else (if nat_lt 0x23 code then codes "reserved" else quoted (prefix_of code))

-- RTD Smart Poster 1.0, recommended action record: the words for the actions from 0 to 2
abbrev pub action_words : List Text
action_words = map (λ word. word.now) ACTION_WORDS

-- Connection Handover 1.2, alternative carrier record: the words for the carrier power states from 0 to 3
abbrev pub power_words : List Text
power_words = map (λ word. word.now) POWER_WORDS

-- Connection Handover 1.2, error record: the words for the reasons from 0 to 3
abbrev pub error_words : List Text
error_words = map (λ word. word.now) ERROR_WORDS

-- Connection Handover 1.2, handover carrier record: the words for the carrier type formats from 0 to 4
abbrev pub format_words : List Text
format_words = map (λ word. word.now) FORMAT_WORDS

-- NDEF 1.0, TNF: the words for the numbers from 0 to 7
abbrev pub tnf_words : List Text
tnf_words = map (λ word. word.now) TNF_WORDS

-- the word for a code that a table has; another is reserved
abbrev pub word_of : (words : List Text) (code : ℕ) → Text
word_of words code = slice_index_or words code (codes "reserved")

-- a code by its number and its word
abbrev pub code_text : (code : ℕ) (word : Text) → Text
code_text code word = codes " " ++ decimal code ++ codes " " ++ word

-- the bits that are reserved and set, where some are
abbrev pub reserved_text : ℕ → Text
reserved_text bits = if bits == 0 then [] else codes ", reserved bits set: " ++ encode_lower (bits ∷ [])

-- Connection Handover 1.2, alternative carrier record: two bits are the carrier power state, the others are reserved
abbrev pub power_text : ℕ → Text
power_text octet = code_text (octet % 4) (word_of power_words (octet % 4)) ++ reserved_text (octet - octet % 4)

-- Connection Handover 1.2, handover carrier record: three bits are the carrier type format, the others are reserved
abbrev pub format_text : ℕ → Text
format_text octet = code_text (octet % 8) (word_of format_words (octet % 8)) ++ reserved_text (octet - octet % 8)
