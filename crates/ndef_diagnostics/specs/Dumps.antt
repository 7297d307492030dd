-- Dumps, which are texts that spell bytes, and the bytes that they spell.
use Rattle.std.specs.Prelude.{ℕ, suc, zero, ◌+◌, ◌*◌, ◌-◌, ◌/◌, ◌%◌, ◌==◌, ◌||◌, ◌&&◌, Bool, true, false, not, List, [], ◌∷◌, ◌++◌, Option, Some, None, Result, Ok, Err, codes, drop, length, min, nat_eq, nat_le, nat_lt, if◌then◌else◌}
use Rattle.std.specs.List.{after_first, before_first, flat_map, fold, list_all, list_any, prefix_len, slice_split, starts_with, take_while}
use Rattle.std.specs.Option.{option_map_or}
use Rattle.ndef_diagnostics.specs.declared.dump_form.DumpForm.{DumpForm}
use Rattle.ndef_diagnostics.specs.declared.dump_form.DumpForm.TheVariants as forms
use Rattle.ndef_diagnostics.specs.declared.dump.DumpFault.{DumpFault}
use Rattle.ndef_diagnostics.specs.declared.dump.DumpFault.TheVariants as faults

-- ---- characters

-- an octet is one of these, or lies between them
abbrev pub is_from : (least most octet : ℕ) → Bool
is_from least most octet = nat_le least octet && nat_le octet most

-- what separates words: a tab, LF, CR, a space, a comma, a dash or a colon
abbrev pub is_separator : ℕ → Bool
is_separator octet =
    (octet == 9) || (octet == 10) || (octet == 13) || (octet == 32) || (octet == 0x2C) || (octet == 0x2D)
    || (octet == 0x3A)

-- a dash or a colon
abbrev pub is_dash : ℕ → Bool
is_dash octet = (octet == 0x2D) || (octet == 0x3A)

-- 0 to 9, A to F, a to f
abbrev pub is_digit : ℕ → Bool
is_digit octet = is_from 0x30 0x39 octet || is_from 0x41 0x46 octet || is_from 0x61 0x66 octet

-- a printable character of ASCII, or a tab, LF or CR
abbrev pub is_character : ℕ → Bool
is_character octet = is_from 0x20 0x7E octet || (octet == 9) || (octet == 10) || (octet == 13)

-- the value of a hexadecimal digit; 0 if it is none
abbrev pub value_of : ℕ → ℕ
value_of octet = if is_from 0x30 0x39 octet then octet - 0x30
    else (if is_from 0x41 0x46 octet then octet - 0x37
    else (if is_from 0x61 0x66 octet then octet - 0x57 else 0))

-- the hexadecimal digit of this value, below 16
abbrev pub digit_of : ℕ → ℕ
digit_of value = if nat_lt value 10 then value + 0x30 else value + 0x57

-- the text begins with these characters
abbrev pub begins_with : (text front : List ℕ) → Bool
begins_with text front = starts_with nat_eq text front

-- ---- lines and words

-- the lines of a text
abbrev pub lines_of : List ℕ → List (List ℕ)
lines_of text = slice_split (λ octet. octet == 10) text

-- the first line
abbrev pub first_line : List ℕ → List ℕ
first_line text = before_first (λ octet. octet == 10) text

-- the words of a text, of which some may be empty
abbrev pub words_of : List ℕ → List (List ℕ)
words_of text = slice_split is_separator text

-- a word without the prefix 0x or 0X
abbrev pub without_prefix : List ℕ → List ℕ
without_prefix word = if begins_with word (codes "0x") || begins_with word (codes "0X") then drop 2 word else word

-- the hexadecimal digits of the words of a text
abbrev pub word_digits : List ℕ → List ℕ
word_digits text = flat_map without_prefix (words_of text)

-- a line that has only separators
abbrev pub is_blank : List ℕ → Bool
is_blank line = list_all is_separator line

-- ---- numbers

-- the number that one digit more makes, in this base; None if it is no digit of it, or the number before it is large
abbrev pub one_digit_more : (base : ℕ) → Option ℕ → (digit : ℕ) → Option ℕ
one_digit_more base None digit = None
one_digit_more base (Some number) digit =
    if is_digit digit && nat_lt (value_of digit) base && nat_lt number 0x100000000
    then Some (number * base + value_of digit) else None

-- the number that digits spell in this base, below 16 * 2 ^ 32
abbrev pub number_in : (base : ℕ) → List ℕ → Option ℕ
number_in base digits = fold (one_digit_more base) (Some 0) digits

-- ---- decimal lists

-- a word of at most three decimal digits that spell an octet, or an empty one
abbrev pub is_octet : List ℕ → Bool
is_octet word = nat_le (length word) 3 && option_map_or (λ number. nat_le number 255) (number_in 10 word) false

-- a word of one digit, or of three
abbrev pub is_uneven : List ℕ → Bool
is_uneven word = (length word == 1) || (length word == 3)

-- words that spell octets, with blanks and commas between, and one of one digit or three: these are no pairs
abbrev pub are_decimals : List ℕ → Bool
are_decimals text =
    not (list_any is_dash text) && list_all is_octet (words_of text) && list_any is_uneven (words_of text)

-- the octet that a word of decimal digits spells
abbrev pub octet_of : List ℕ → ℕ
octet_of word = option_map_or (λ number. number % 256) (number_in 10 word) 0

-- the two hexadecimal digits of that octet; none of an empty word
abbrev pub spelled_digits : List ℕ → List ℕ
spelled_digits [] = []
spelled_digits (digit ∷ digits) =
    digit_of (octet_of (digit ∷ digits) / 16) ∷ digit_of (octet_of (digit ∷ digits) % 16) ∷ []

-- the hexadecimal digits of the octets of a decimal list
abbrev pub decimal_digits : List ℕ → List ℕ
decimal_digits text = flat_map spelled_digits (words_of text)

-- ---- what surrounds a list in a program

-- the text after the first of one character, up to the next of another
abbrev pub between : (first last : ℕ) → List ℕ → List ℕ
between first last text = before_first (λ octet. octet == last) (after_first (λ octet. octet == first) text)

-- an empty word, or one of two digits
abbrev pub is_pair : List ℕ → Bool
is_pair word = ((length word == 0) || (length word == 2)) && list_all is_digit word

-- the text in its first braces; else in its first brackets; else all of it
abbrev pub surrounded : List ℕ → List ℕ
surrounded text = if list_any (λ octet. octet == 0x7B) text then between 0x7B 0x7D text
    else (if list_any (λ octet. octet == 0x5B) text then between 0x5B 0x5D text else text)

-- pairs of hexadecimal digits, which may have the prefix 0x, with blanks and commas between
abbrev pub are_prefixed_pairs : List ℕ → Bool
are_prefixed_pairs text = list_all (λ word. is_pair (without_prefix word)) (words_of text)

-- the octets of a list in a program
abbrev pub is_list : List ℕ → Bool
is_list text = are_decimals text || (not (list_any is_dash text) && are_prefixed_pairs text)

-- the list in a text of a program, which is ASCII; else all of the text
abbrev pub inside : List ℕ → List ℕ
inside text = if list_all is_character text && is_list (surrounded text) then surrounded text else text

-- ---- forms

-- the number of digits of the place with which a line of a dump begins
abbrev pub place_length : List ℕ → ℕ
place_length line = prefix_len is_digit line

-- the text after the place of a line
abbrev pub after_place : List ℕ → List ℕ
after_place line = drop (place_length line) line

-- the text before the first two spaces in a row
abbrev pub before_gap : List ℕ → List ℕ
before_gap [] = []
before_gap (octet ∷ text) = if begins_with (octet ∷ text) (codes "  ") then [] else octet ∷ before_gap text

-- the part of a line of `od` with the octets: after the place, and before what `od -t x1z` adds
abbrev pub od_part : List ℕ → List ℕ
od_part line = before_first (λ octet. octet == 0x3E) (after_place line)

-- a line of `xxd` begins with a place of eight digits or more, a colon and a space
abbrev pub is_of_xxd : List ℕ → Bool
is_of_xxd line = nat_le 8 (place_length line) && begins_with (after_place line) (codes ": ")

-- a line of `hexdump -C`: a place of eight digits or more, two spaces, and a bar
abbrev pub is_of_hexdump : List ℕ → Bool
is_of_hexdump line = nat_le 8 (place_length line)
    && begins_with (after_place line) (codes "  ") && list_any (λ octet. octet == 0x7C) line

-- a first line of `od`, or of `hexdump` with no option: a place of six digits or seven, of which the first is 0, and
-- a space
abbrev pub is_of_od : List ℕ → Bool
is_of_od line = nat_le 6 (place_length line) && nat_le (place_length line) 7
    && begins_with line (codes "0") && begins_with (after_place line) (codes " ")

-- the last line of `od`: a place of six digits or more, and nothing else
abbrev pub is_last_place : List ℕ → Bool
is_last_place line = nat_le 6 (place_length line) && is_blank (after_place line)

-- the last of some lines that has more than separators; else the one before them
abbrev pub last_line : (before : List ℕ) → List (List ℕ) → List ℕ
last_line before lines = fold (λ last line. if is_blank line then last else line) before lines

-- a text by `od` or by `hexdump`: a first place of seven digits spells no octets; one of six may, but if the last line
-- has only a place
abbrev pub is_by_od : List ℕ → Bool
is_by_od text = is_of_od (first_line text)
    && ((place_length (first_line text) == 7) || is_last_place (last_line [] (lines_of text)))

-- ---- the digits of lines

-- the part of a line of a Flipper's file with the octets: after `Page`, its number and a colon; of other lines nothing
abbrev pub page_part : List ℕ → List ℕ
page_part line = if begins_with line (codes "Page ") then after_first (λ octet. octet == 0x3A) line else []

-- the part of a line with its digits: up to the first two spaces in a row of `xxd`, or the first bar of `hexdump -C`
abbrev pub line_part : DumpForm → List ℕ → List ℕ
line_part forms.Digits line = line
line_part forms.Decimals line = line
line_part forms.Words line = line
line_part forms.Xxd line = before_gap (drop 2 (after_place line))
line_part forms.Hexdump line = before_first (λ octet. octet == 0x7C) (after_place line)
line_part (forms.Od base) line = od_part line
line_part forms.Flipper line = page_part line

-- the hexadecimal digits of a part of a line
abbrev pub part_digits : DumpForm → List ℕ → List ℕ
part_digits forms.Decimals part = decimal_digits part
part_digits form part = word_digits part

-- the hexadecimal digits of a line
abbrev pub line_digits : DumpForm → List ℕ → List ℕ
line_digits form line = part_digits form (line_part form line)

-- ---- lines that are repeated

-- a line of only `*`
abbrev pub is_star : List ℕ → Bool
is_star line = begins_with line (codes "*") && is_blank (drop 1 line)

-- the octets in place of a line `*`: as many as lie between the octets of the line before it, which has these digits,
-- and the place of the line after it. They are that line's octets again, once or more, and the line has at most 16
-- characters for a digit.
abbrev pub gap_between : (digits characters : ℕ) → (span : ℕ) → Option ℕ
gap_between digits characters span =
    if nat_le 2 digits && (digits % 2 == 0) && nat_le (characters / 16) digits && nat_lt (digits / 2) span
    && (span % (digits / 2) == 0) then Some (span - digits / 2) else None

-- the place with which a line begins, in this base
abbrev pub place_in : (base : ℕ) → List ℕ → Option ℕ
place_in base line = if place_length line == 0 then None else number_in base (take_while is_digit line)

-- the number of digits of a line: at most one more than a dump may have
abbrev pub digit_count : DumpForm → List ℕ → ℕ
digit_count form line = min (length (line_digits form line)) 33554433

-- the octets in place of a line `*`, if both places can be read
abbrev pub gap_of_places : (digits characters : ℕ) → Option ℕ → Option ℕ → Option ℕ
gap_of_places digits characters (Some place) (Some next) = gap_between digits characters (next - place)
gap_of_places digits characters place next = None

-- the same of the lines before and after, whose places are in this base
abbrev pub gap_in : (base : ℕ) → DumpForm → (before after : List ℕ) → Option ℕ
gap_in base form before after =
    gap_of_places (digit_count form before) (length before) (place_in base before) (place_in base after)

-- the number of octets in place of a line `*` between two lines; None if none fit, or the form has no places
abbrev pub gap_of : DumpForm → (before after : List ℕ) → Option ℕ
gap_of forms.Xxd before after = gap_in 16 forms.Xxd before after
gap_of forms.Hexdump before after = gap_in 16 forms.Hexdump before after
gap_of (forms.Od base) before after = gap_in base (forms.Od base) before after
gap_of form before after = None

-- the first of some lines; empty if there is none
abbrev pub next_line : List (List ℕ) → List ℕ
next_line [] = []
next_line (line ∷ lines) = line

-- these digits, so often
abbrev pub times : ℕ → List ℕ → List ℕ
times zero digits = []
times (suc count) digits = digits ++ times count digits

-- how often which line's digits are in place of a line: of `*` those of the line before it, up to the place of the line
-- after it; of other lines their own, once
abbrev pub source_by : Option ℕ → DumpForm → (before line : List ℕ) → ℕ × List ℕ
source_by None form before line = (1, line)
source_by (Some gap) form before line = (gap / (digit_count form before / 2), before)

-- the same of a line between two others
abbrev pub source_of : DumpForm → (before line after : List ℕ) → ℕ × List ℕ
source_of form before line after =
    source_by (if is_star line then gap_of form before after else None) form before line

-- the digits of a source
abbrev pub source_digits : DumpForm → ℕ × List ℕ → List ℕ
source_digits form source = times source.0 (line_digits form source.1)

-- the digits of lines after one
abbrev pub digits_after : DumpForm → (before : List ℕ) → List (List ℕ) → List ℕ
digits_after form before [] = []
digits_after form before (line ∷ lines) =
    source_digits form (source_of form before line (next_line lines)) ++ digits_after form line lines

-- ---- the form

-- octets of this number lie between two places
abbrev pub lies_after : (octets : ℕ) → Option ℕ → Option ℕ → Bool
lies_after octets (Some place) (Some next) = nat_le place next && (next - place == octets)
lies_after octets place next = false

-- the place of the next line, in this base, is that after a line of `od`; or one of them has none
abbrev pub is_next : (base : ℕ) → (line next : List ℕ) → Bool
is_next base line next = is_star line || is_star next || is_blank next
    || lies_after (digit_count (forms.Od base) line / 2) (place_in base line) (place_in base next)

-- each line has the place after the line before it, in this base
abbrev pub are_in_base : (base : ℕ) → List (List ℕ) → Bool
are_in_base base [] = true
are_in_base base (line ∷ lines) = is_next base line (next_line lines) && are_in_base base lines

-- the base of the places of `od`: six digits are hexadecimal; others are octal, else decimal, else hexadecimal, by the
-- first base in which the lines follow each other
abbrev pub base_of : List ℕ → ℕ
base_of text = if place_length (first_line text) == 6 then 16
    else (if are_in_base 8 (lines_of text) then 8 else (if are_in_base 10 (lines_of text) then 10 else 16))

-- one space, as `od -t x1` of GNU has it after a place, or four, as that of BSD has it
abbrev pub is_od_gap : List ℕ → Bool
is_od_gap text = (prefix_len (λ octet. octet == 32) text == 1) || (prefix_len (λ octet. octet == 32) text == 4)

-- a first line of `od -t x1`
abbrev pub has_pairs : List ℕ → Bool
has_pairs line = is_od_gap (after_place line) && list_all is_pair (words_of (od_part line))

-- the form of a text by `od`: octets, or words of several
abbrev pub od_form : List ℕ → DumpForm
od_form text = if has_pairs (first_line text) then forms.Od (base_of text) else forms.Words

-- the form of a list
abbrev pub list_form : List ℕ → DumpForm
list_form text = if are_decimals (inside text) then forms.Decimals else forms.Digits

-- the form of a dump
abbrev pub form_of : List ℕ → DumpForm
form_of text = if begins_with text (codes "Filetype: Flipper") then forms.Flipper
    else (if is_of_xxd (first_line text) then forms.Xxd
    else (if is_of_hexdump (first_line text) then forms.Hexdump
    else (if is_by_od text then od_form text else list_form text)))

-- the part of a text that has its digits
abbrev pub text_part : DumpForm → List ℕ → List ℕ
text_part forms.Digits text = inside text
text_part forms.Decimals text = inside text
text_part form text = text

-- the digits of a text
abbrev pub digits_of : DumpForm → List ℕ → List ℕ
digits_of form text = digits_after form [] (lines_of (text_part form text))

-- ---- faults

-- a line that a dump of this form may have
abbrev pub is_fit : DumpForm → List ℕ → Bool
is_fit forms.Xxd line = is_of_xxd line || is_blank line
is_fit form line = true

-- the fault of the line of this number, between two others
abbrev pub line_fault : DumpForm → (number : ℕ) → (before line after : List ℕ) → Option DumpFault
line_fault form number before line after = if is_star line
    then option_map_or (λ gap. None) (gap_of form before after) (Some (faults.Repeated number))
    else (if is_fit form line then None else Some (faults.NoPlace number))

-- the first of two faults
abbrev pub first_of_faults : Option DumpFault → Option DumpFault → Option DumpFault
first_of_faults (Some fault) later = Some fault
first_of_faults None later = later

-- the fault of the first line that has one, of lines after one, of which the first has this number
abbrev pub first_fault : DumpForm → (number : ℕ) → (before : List ℕ) → List (List ℕ) → Option DumpFault
first_fault form number before [] = None
first_fault form number before (line ∷ lines) =
    first_of_faults (line_fault form number before line (next_line lines)) (first_fault form (number + 1) line lines)

-- the place, after others, of the first that is no digit
abbrev pub first_bad : (place : ℕ) → List ℕ → Option ℕ
first_bad place [] = None
first_bad place (digit ∷ digits) = if is_digit digit then first_bad (place + 1) digits else Some place

-- ---- octets

-- the octets that pairs of digits spell
abbrev pub octets_of : List ℕ → List ℕ
octets_of [] = []
octets_of (high ∷ []) = []
octets_of (high ∷ low ∷ digits) = (16 * value_of high + value_of low) ∷ octets_of digits

-- the octets that digits spell, if all are digits
abbrev pub sound_octets : (bad : Option ℕ) → List ℕ → Result (List ℕ) DumpFault
sound_octets (Some place) digits = Err (faults.BadDigit place)
sound_octets None digits = Ok (octets_of digits)

-- the octets that digits spell: at most 16777216 of them
abbrev pub spelled_by : List ℕ → Result (List ℕ) DumpFault
spelled_by digits = if nat_lt 33554432 (length digits) then Err faults.TooLong
    else (if length digits % 2 == 1 then Err faults.Odd else sound_octets (first_bad 0 digits) digits)

-- the octets that a text of this form spells, if no line has a fault
abbrev pub unless_fault : Option DumpFault → DumpForm → List ℕ → Result (List ℕ) DumpFault
unless_fault (Some fault) form text = Err fault
unless_fault None form text = spelled_by (digits_of form text)

-- the fault of a text of this form, in its words or its lines
abbrev pub text_fault : DumpForm → List ℕ → Option DumpFault
text_fault forms.Words text = Some faults.Words
text_fault form text = first_fault form 1 [] (lines_of text)

-- the octets that a text of this form spells, or the first fault
abbrev pub dump_in : DumpForm → List ℕ → Result (List ℕ) DumpFault
dump_in form text = unless_fault (text_fault form text) form text

-- the octets that a text spells, or the first fault
abbrev pub dump_of : List ℕ → Result (List ℕ) DumpFault
dump_of text = dump_in (form_of text) text

-- the number of octets, or the fault
abbrev pub counted : Result (List ℕ) DumpFault → Result ℕ DumpFault
counted (Ok octets) = Ok (length octets)
counted (Err fault) = Err fault

-- octets over the front of others, as many as there is space for
abbrev pub written : (octets out : List ℕ) → List ℕ
written [] out = out
written (octet ∷ octets) [] = []
written (octet ∷ octets) (other ∷ out) = octet ∷ written octets out
