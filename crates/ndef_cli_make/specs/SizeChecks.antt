-- The output for a message, by the words before its records.
use Rattle.std.specs.Prelude.{◌-◌, ℕ, List, [], ◌∷◌, drop, map, min, nat_lt, Option, Some, None, codes, if◌then◌else◌, option_map, string_bytes}
use Rattle.std.specs.Option.{option_map_or}
use Rattle.std.specs.Str.{bytes_eq}
use Rattle.clap.specs.Words.{Text}
use Rattle.ndef_cli.specs.Options.{number_in}
use Rattle.ndef_cli_make.specs.declared.size_check.Front.{Front}
use Rattle.ndef_cli_make.specs.declared.size_check.Front.TheVariants as front
use Rattle.ndef_cli_make.specs.declared.size_check.SizeCheck.{SizeCheck}
use Rattle.ndef_cli_make.specs.declared.size_check.SizeCheck.TheVariants.{Whole, Count, Room}
use Rattle.ndef_cli_make.specs.declared.size_check.CheckedSize.{CheckedSize}

-- ---- words

-- the word of this name before the records
abbrev pub front_named : Text → Option Front
front_named name = if bytes_eq name (codes "--size") then Some front.Size
    else (if bytes_eq name (codes "--tag") then Some front.Tag else None)

-- NXP NTAG213, NTAG215 and NTAG216, user memory: the bytes of the tag of this name, or that many
abbrev pub room_named : Text → Option ℕ
room_named name = if bytes_eq name (codes "ntag213") then Some 144
    else (if bytes_eq name (codes "ntag215") then Some 504
    else (if bytes_eq name (codes "ntag216") then Some 888 else number_in name))

-- the tag that the first word names, and the words after it
abbrev pub tag_words : List Text → Option (SizeCheck × List Text)
tag_words [] = None
tag_words (name ∷ records) = option_map (λ room. (Room room, records)) (room_named name)

-- what is written by the first word, and the words of the records
abbrev pub size_check_by : Option Front → (all records : List Text) → Option (SizeCheck × List Text)
size_check_by (Some front.Size) all records = Some (Count, records)
size_check_by (Some front.Tag) all records = tag_words records
size_check_by None all records = Some (Whole, all)

-- the same of all words
abbrev pub size_check_in : List Text → Option (SizeCheck × List Text)
size_check_in [] = Some (Whole, [])
size_check_in (word ∷ records) = size_check_by (front_named word) (word ∷ records) records

-- the words of the records, after the program's name
abbrev pub record_words : List Text → List Text
record_words words = option_map_or (λ m. m.1) (size_check_in (drop 1 words)) []

-- the parts of a value of the program
abbrev pub checked_size_words : CheckedSize → SizeCheck × List Text
checked_size_words m = (m.size_check, map string_bytes m.records.now)

-- ---- sizes

-- Type 2 Tag, NDEF Message TLV and Terminator TLV: the length of the longest message that fits on a tag with this many
-- bytes. Around a message are its TLV's tag, a length of one octet, or of three from 255 on, and the terminator
abbrev pub most_in : (room : ℕ) → ℕ
most_in room = if nat_lt room 260 then min 254 (room - 3) else room - 5

-- the length of a message and the bytes of the tag, where these are too few
abbrev pub size_mismatch : SizeCheck → ℕ → Option (ℕ × ℕ)
size_mismatch Whole n = None
size_mismatch Count n = None
size_mismatch (Room room) n = if nat_lt (most_in room) n then Some (n, room) else None
