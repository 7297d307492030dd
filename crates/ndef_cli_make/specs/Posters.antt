-- Smart posters (NFC Forum, RTD Smart Poster 1.0).
use Rattle.std.specs.Prelude.{◌≡◌, ◌<◌, ◌≤◌, ◌^◌, ◌⊎◌, ℕ, List, [], ◌∷◌, length, Option, Some, None, Ok, Err, codes, chars, if◌then◌else◌, option_map}
use Rattle.std.specs.Int.{w32, to_be_bytes}
use Rattle.std.specs.Str.{bytes_eq}
use Rattle.clap.specs.Words.{Text}
use Rattle.ndef_format.specs.Messages.{Item}
use Rattle.ndef_format.specs.Canonical.{canonical}
use Rattle.ndef_format.specs.declared.profile.Profile.TheVariants.{Strict}
use Rattle.ndef_format.specs.Nested.{HasContents}
use Rattle.ndef_format.specs.declared.table.Table.TheVariants as tables
use Rattle.ndef_types.specs.Contents.{IsFirstWrong}
use Rattle.ndef_types.specs.Posters.{LacksUri}
use Rattle.ndef_types.specs.Values.{TextValue}
use Rattle.ndef_types.specs.declared.encoding.Encoding.TheVariants.{Utf8}
use Rattle.ndef_cli.specs.Options.{number_in}
use Rattle.ndef_cli_make.specs.Options.{cut_at, is_equals}
use Rattle.ndef_cli_make.specs.Records.{Answer, typed_record}
use Rattle.ndef_cli_make.specs.declared.fault.Fault.TheVariants.{Refused, Memory}
use Rattle.ndef_cli_make.specs.declared.fault.Refused.TheVariants.{NoPoster, PayloadTooLong, TooManyRecords}

-- ---- one property

-- RTD Smart Poster 1.0, title record: a language code, an equals sign and the text
abbrev pub title_said : Text → Option TextValue
title_said word =
    option_map (λ title. record { encoding = Utf8; language = title.0; text = chars title.1 })
    (cut_at is_equals word)

-- RTD Smart Poster 1.0, recommended action record: the octet of an action
abbrev pub action_octet : Text → Option ℕ
action_octet name = if bytes_eq name (codes "do") then Some 0
    else (if bytes_eq name (codes "save") then Some 1
    else (if bytes_eq name (codes "open") then Some 2 else None))

-- RTD Smart Poster 1.0, recommended action record: one octet
abbrev pub action_said : Text → Option Item
action_said name = option_map (λ octet. typed_record (codes "act") (octet ∷ [])) (action_octet name)

-- RTD Smart Poster 1.0, size record: four octets, most significant first
abbrev pub size_said : Text → Option Item
size_said word =
    option_map (λ size. typed_record (codes "s") (to_be_bytes w32 size)) (number_in word)

-- ---- the poster

-- RTD Smart Poster 1.0: the record of a poster of these records, in their canonical spelling
abbrev pub MakesNested : List Item → Answer → Type 0
MakesNested items (Ok i) =
    HasContents tables.SmartPoster Strict items × (length (canonical items) < 2 ^ 32)
    × (i ≡ typed_record (codes "Sp") (canonical items))
MakesNested items (Err (Refused NoPoster)) = (items ≡ []) ⊎ ((index : ℕ) × (length items ≤ 65535)
    × (IsFirstWrong tables.SmartPoster items index ⊎ LacksUri items index))
MakesNested items (Err (Refused TooManyRecords)) = 65535 < length items
MakesNested items (Err (Refused PayloadTooLong)) = 2 ^ 32 ≤ length (canonical items)
MakesNested items (Err Memory) =
    HasContents tables.SmartPoster Strict items × (length (canonical items) < 2 ^ 32)
MakesNested items (Err _) = ⊥
