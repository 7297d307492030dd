-- Texts that spell bytes.
use Rattle.std.specs.Prelude.{ℕ, ◌+◌, ◌-◌, ◌%◌, ◌==◌, ◌||◌, ◌&&◌, Bool, true, false, not, List, [], ◌∷◌, Option, Some, None, Result, Ok, Err, codes, drop, length, if◌then◌else◌}
use Rattle.std.specs.List.{before_first, count_by, fold, list_all, list_any}
use Rattle.ndef_diagnostics.specs.Dumps.{begins_with, dump_in, first_line, form_of, is_blank, is_from, is_pair, is_star}
use Rattle.ndef_diagnostics.specs.Dumps.{lines_of, words_of}
use Rattle.ndef_diagnostics.specs.declared.dump.DumpFault.{DumpFault}
use Rattle.ndef_diagnostics.specs.declared.dump_form.DumpForm.{DumpForm}
use Rattle.ndef_diagnostics.specs.declared.dump_form.DumpForm.TheVariants as forms
use Rattle.ndef_diagnostics.specs.declared.dump_text.DumpText.{DumpText}
use Rattle.ndef_diagnostics.specs.declared.dump_text.DumpText.TheVariants as texts

-- the text of a dump of this form
abbrev pub text_by : DumpForm → DumpText
text_by forms.Digits = texts.Digits
text_by forms.Decimals = texts.Digits
text_by forms.Xxd = texts.Xxd
text_by forms.Hexdump = texts.Hexdump
text_by (forms.Od base) = texts.Od
text_by forms.Words = texts.Words
text_by forms.Flipper = texts.Flipper

-- octets were read, one or more
abbrev pub are_some : Result (List ℕ) DumpFault → Bool
are_some (Ok []) = false
are_some (Ok (octet ∷ octets)) = true
are_some (Err fault) = false

-- a dump of this form spells an octet or more, or is in words
abbrev pub is_dump : DumpForm → List ℕ → Bool
is_dump forms.Words bytes = true
is_dump form bytes = are_some (dump_in form bytes)

-- a line of `od -An -t x1`: pairs of digits, or `*` in place of lines that are as the one before it
abbrev pub is_od_line : List ℕ → Bool
is_od_line line = is_star line || list_all is_pair (words_of line)

-- a dump by `od -An -t x1`, which begins with octets, and in which `*` is in place of lines: no place says of how many
abbrev pub is_suppressed : List ℕ → Bool
is_suppressed bytes = not (is_blank (first_line bytes)) && list_all is_pair (words_of (first_line bytes))
    && list_any is_star (lines_of bytes) && list_all is_od_line (lines_of bytes)

-- the output of a Proxmark: a mark of its client at the beginning of the first line
abbrev pub is_of_proxmark : List ℕ → Bool
is_of_proxmark bytes =
    begins_with bytes (codes "[=]") || begins_with bytes (codes "[+]") || begins_with bytes (codes "[usb]")

-- RFC 4648, section 4: a letter, a digit, `+` or `/`
abbrev pub is_base64_digit : ℕ → Bool
is_base64_digit octet =
    is_from 0x2F 0x39 octet || is_from 0x41 0x5A octet || is_from 0x61 0x7A octet || (octet == 0x2B)

-- RFC 4648, table 1: the value of a digit; 63 of any other octet
abbrev pub base64_value : ℕ → ℕ
base64_value octet = if is_from 0x41 0x5A octet then octet - 65
    else (if is_from 0x61 0x7A octet then octet - 71
    else (if is_from 0x30 0x39 octet then octet + 4 else (if octet == 0x2B then 62 else 63)))

-- digits of base64 and line feeds
abbrev pub are_digits : List ℕ → Bool
are_digits bytes = list_all (λ octet. is_base64_digit octet || (octet == 10)) bytes

-- padding and line feeds
abbrev pub are_padding : List ℕ → Bool
are_padding bytes = list_all (λ octet. (octet == 0x3D) || (octet == 10)) bytes

-- the bytes before the first padding
abbrev pub digits_of : List ℕ → List ℕ
digits_of bytes = before_first (λ octet. octet == 0x3D) bytes

-- the bytes from the first padding on
abbrev pub padding_of : List ℕ → List ℕ
padding_of bytes = drop (length (digits_of bytes)) bytes

-- the last that is no line feed; 0 if there is none
abbrev pub last_digit : List ℕ → ℕ
last_digit bytes = fold (λ last octet. if octet == 10 then last else octet) 0 bytes

-- RFC 4648, sections 3.5 and 4: a digit may be the last before so much padding, which leaves bits of it unused, all 0
abbrev pub is_last_digit : (digit padding : ℕ) → Bool
is_last_digit digit padding = (padding == 0) || ((padding == 1) && (base64_value digit % 4 == 0))
    || ((padding == 2) && (base64_value digit % 16 == 0))

-- RFC 4648, section 4: quantums of four, which only line feeds separate; of the last, one or two may be padding
abbrev pub is_base64 : List ℕ → Bool
is_base64 bytes = are_digits (digits_of bytes) && are_padding (padding_of bytes)
    && (count_by (λ octet. not (octet == 10)) bytes % 4 == 0)
    && is_last_digit (last_digit (digits_of bytes)) (count_by (λ octet. octet == 0x3D) bytes)

-- RFC 4648, section 4, and NDEF 1.0, MB: a first digit of 32 or more, as that of a message: `g` to `z`, or no letter
abbrev pub is_first_digit : ℕ → Bool
is_first_digit octet = is_from 0x67 0x7A octet || is_from 0x2F 0x39 octet || (octet == 0x2B)

-- RFC 4648, section 4: base64, and the first digit is as that of a message
abbrev pub may_be_base64 : List ℕ → Bool
may_be_base64 [] = false
may_be_base64 (octet ∷ bytes) = is_first_digit octet && is_base64 (octet ∷ bytes)

-- the bytes are a text that spells others
abbrev pub text_of : List ℕ → Option DumpText
text_of bytes = if is_dump (form_of bytes) bytes then Some (text_by (form_of bytes))
    else (if is_suppressed bytes then Some texts.Suppressed
    else (if is_of_proxmark bytes then Some texts.Proxmark
    else (if may_be_base64 bytes then Some texts.Base64 else None)))
