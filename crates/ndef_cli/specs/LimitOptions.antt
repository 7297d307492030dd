-- The limits that options give.
use Rattle.std.specs.Prelude.{◌&&◌, ℕ, List, Option, Some, None, codes, if◌then◌else◌, option_and_then, option_map, nat_lt, nat_le}
use Rattle.std.specs.Option.{option_map_or}
use Rattle.std.specs.Str.{bytes_eq}
use Rattle.clap.specs.Words.{Row, Text, first_of, one_of}
use Rattle.ndef_format.specs.Limits.{LimitValues, usual_limits}
use Rattle.ndef_format.specs.declared.profile.Profile.{Profile}
use Rattle.ndef_format.specs.declared.profile.Profile.TheVariants.{Strict, Standard}
use Rattle.ndef_cli.specs.Options.{number_in}

-- the number, where it is from 1 to the most
abbrev pub within : ℕ → ℕ → Option ℕ
within most n = if nat_lt 0 n && nat_le n most then Some n else None

-- the number of an option that is given, where it is from 1 to the most
abbrev pub given_number : Text → ℕ → List Row → Option ℕ
given_number id most rows =
    option_and_then (within most) (option_and_then number_in (one_of id rows))

-- the same, or the usual one for an option that isn't given
abbrev pub number_or : Text → ℕ → ℕ → List Row → Option ℕ
number_or id most usual rows =
    option_map_or (λ _. given_number id most rows) (first_of id rows) (Some usual)

-- the profile of this name
abbrev pub profile_named : Text → Option Profile
profile_named name = if bytes_eq name (codes "strict") then Some Strict
    else (if bytes_eq name (codes "standard") then Some Standard else None)

-- the profile that is given, or the strict one
abbrev pub chosen_profile : List Row → Option Profile
chosen_profile rows = option_map_or profile_named (first_of (codes "profile") rows) (Some Strict)

-- the limits that are given
abbrev pub chosen_limits : List Row → Option LimitValues
chosen_limits rows =
    option_and_then (λ payload.
    option_and_then (λ records.
    option_and_then (λ pieces.
    option_map (λ profile. record { payload = payload; records = records; pieces = pieces; profile = profile })
    (chosen_profile rows))
    (number_or (codes "pieces") 65535 usual_limits.pieces rows))
    (number_or (codes "records") 65535 usual_limits.records rows))
    (number_or (codes "payload") 4294967295 usual_limits.payload rows)
