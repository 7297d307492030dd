-- The values of the options of a part.
use Rattle.std.specs.Prelude.{◌==◌, ◌&&◌, false, ℕ, Bool, List, [], length, Option, Some, None, codes, if◌then◌else◌, is_some, nat_lt, option_and_then, unwrap_or}
use Rattle.std.specs.List.{after_first, before_first, position_or_len}
use Rattle.std.specs.Str.{bytes_eq}
use Rattle.clap.specs.Words.{Row, Text, all_of, first_of}
use Rattle.ndef_format.specs.declared.tnf.Tnf.{Tnf}
use Rattle.ndef_format.specs.declared.tnf.Tnf.TheVariants as tnf
use Rattle.ndef_cli.specs.Options.{number_in}
use Rattle.ndef_cli_make.specs.declared.options.Subject.{Subject}
use Rattle.ndef_cli_make.specs.declared.options.Subject.TheVariants as subject

-- the word of an option, or another one where it isn't given
abbrev pub word_or : (id other : Text) → List Row → Text
word_or id other rows = unwrap_or (first_of id rows) other

-- the id that a part gives; the empty one where it gives none
abbrev pub id_said : List Row → Text
id_said rows = word_or (codes "id") [] rows

-- whether an option is given
abbrev pub is_said : Text → List Row → Bool
is_said id rows = is_some (first_of id rows)

-- the words of an option
abbrev pub option_words : Text → List Row → List Text
option_words id rows = unwrap_or (all_of id rows) []

-- the subject of this name
abbrev pub subject_named : Text → Option Subject
subject_named name = if bytes_eq name (codes "text") then Some subject.Text
    else (if bytes_eq name (codes "uri") then Some subject.Uri
    else (if bytes_eq name (codes "poster") then Some subject.Poster
    else (if bytes_eq name (codes "handover") then Some subject.Handover
    else (if bytes_eq name (codes "record") then Some subject.Record
    else (if bytes_eq name (codes "media") then Some subject.Media
    else (if bytes_eq name (codes "external") then Some subject.External
    else (if bytes_eq name (codes "app") then Some subject.App
    else (if bytes_eq name (codes "carrier") then Some subject.Carrier else None))))))))

-- NDEF 1.0, TNF: the type name format of this number, as it is written in decimal; 6 and 7 are of
-- no record
abbrev pub tnf_named : Text → Option Tnf
tnf_named name = if bytes_eq name (codes "0") then Some tnf.Empty
    else (if bytes_eq name (codes "1") then Some tnf.WellKnown
    else (if bytes_eq name (codes "2") then Some tnf.Media
    else (if bytes_eq name (codes "3") then Some tnf.AbsoluteUri
    else (if bytes_eq name (codes "4") then Some tnf.External
    else (if bytes_eq name (codes "5") then Some tnf.Unknown else None)))))

-- -- the meaning of a word

-- the equals sign
abbrev pub is_equals : ℕ → Bool
is_equals byte = byte == 61

-- the colon
abbrev pub is_colon : ℕ → Bool
is_colon byte = byte == 58

-- the slash
abbrev pub is_slash : ℕ → Bool
is_slash byte = byte == 47

-- the comma
abbrev pub is_comma : ℕ → Bool
is_comma byte = byte == 44

-- the text before the first byte of a kind, and the text after it
abbrev pub cut_at : (ℕ → Bool) → Text → Option (Text × Text)
cut_at is_cut word =
    if nat_lt (position_or_len is_cut word) (length word)
    then Some (before_first is_cut word, after_first is_cut word) else None

-- whether a cut word has something before the cut and something after it
abbrev pub has_both : Option (Text × Text) → Bool
has_both None = false
has_both (Some (front, rest)) = nat_lt 0 (length front) && nat_lt 0 (length rest)

-- a word that has something before the first byte of a kind and something after it
abbrev pub joined_at : (ℕ → Bool) → Text → Option Text
joined_at is_cut word = if has_both (cut_at is_cut word) then Some word else None

-- the number that a word denotes, if it is below this one
abbrev pub number_below : ℕ → Text → Option ℕ
number_below bound t = option_and_then (λ n. if nat_lt n bound then Some n else None) (number_in t)
