-- The word of a carrier of a handover (NFC Forum, Connection Handover 1.2, Alternative Carrier record).
use Rattle.std.specs.Prelude.{◌||◌, Bool, List, [], ◌∷◌, length, drop, take, Option, Some, None, codes, if◌then◌else◌, is_some, option_and_then, option_map}
use Rattle.std.specs.Borrow.{Bor}
use Rattle.std.specs.List.{filter_map, list_all, slice_split}
use Rattle.std.specs.Option.{option_map_or, option_or}
use Rattle.std.specs.Str.{bytes_eq}
use Rattle.clap.specs.Words.{Text}
use Rattle.ndef_types.specs.declared.power.Power.{Power}
use Rattle.ndef_types.specs.declared.power.Power.TheVariants as power
use Rattle.ndef_cli_make.specs.Options.{cut_at, is_comma, is_equals}
use Rattle.ndef_cli_make.specs.declared.carrier_word.Linked.{Linked}
use Rattle.ndef_cli_make.specs.declared.carrier_word.References.{References}
use Rattle.ndef_cli_make.specs.declared.carrier_word.References.TheVariants as references

-- Connection Handover 1.2, Alternative Carrier record, carrier power state: the state of this name
abbrev pub power_named : Text → Option Power
power_named name = if bytes_eq name (codes "inactive") then Some power.Inactive
    else (if bytes_eq name (codes "active") then Some power.Active
    else (if bytes_eq name (codes "activating") then Some power.Activating
    else (if bytes_eq name (codes "unknown") then Some power.Unknown else None)))

-- a power state and references, of which the first is the carrier's and the others are auxiliary
abbrev pub Link : Type 0
Link = Power × List Text

-- ---- in order

-- a power state, an equals sign, and references between commas
abbrev pub link_in_order : Text → Option Link
link_in_order word =
    option_and_then (λ cut. option_map (λ power. (power, slice_split is_comma cut.1)) (power_named cut.0))
    (cut_at is_equals word)

-- ---- by keys

-- the value of a setting, if it begins with this key
abbrev pub value_of : (key setting : Text) → Option Text
value_of key setting =
    if bytes_eq (take (length key) setting) key then Some (drop (length key) setting) else None

-- the values of a key, in order; commas separate settings
abbrev pub values_of : (key word : Text) → List Text
values_of key word = filter_map (value_of key) (slice_split is_comma word)

-- whether a setting has one of the keys
abbrev pub is_setting : Text → Bool
is_setting setting = is_some (value_of (codes "power=") setting)
    || (is_some (value_of (codes "ref=") setting) || is_some (value_of (codes "aux=") setting))

-- the only element
abbrev pub only : List Text → Option Text
only (x ∷ []) = Some x
only _ = None

-- a power state, a reference and auxiliary references, where the first two are given
abbrev pub link_of : Option Power → Option Text → (auxiliary : List Text) → Option Link
link_of (Some power) (Some reference) auxiliary = Some (power, reference ∷ auxiliary)
link_of _ _ auxiliary = None

-- settings in any order: one power state, one reference and any number of auxiliary references
abbrev pub link_by_keys : Text → Option Link
link_by_keys word = if list_all is_setting (slice_split is_comma word)
    then link_of (option_and_then power_named (only (values_of (codes "power=") word)))
    (only (values_of (codes "ref=") word)) (values_of (codes "aux=") word)
    else None

-- Connection Handover 1.2, Alternative Carrier record: the carrier that a word denotes, as
-- `active=ble,x` or as `power=active,ref=ble,aux=x`
abbrev pub link_said : Text → Option Link
link_said word = option_or (link_in_order word) (link_by_keys word)

-- ---- step by step

-- what commas separate in the rest of a word, where there is a rest
abbrev pub parts_left : Option (Bor Text) → List Text
parts_left rest = option_map_or (λ text. slice_split is_comma text.now) rest []

-- the values of a key in it
abbrev pub values_left : (key : Text) → Option (Bor Text) → List Text
values_left key rest = filter_map (value_of key) (parts_left rest)

-- references that are left of a word
abbrev pub references_left : References → List Text
references_left (references.InOrder rest) = parts_left rest
references_left (references.ByKeys reference rest) = reference.now ∷ values_left (codes "aux=") rest
references_left (references.Auxiliary rest) = values_left (codes "aux=") rest

-- the parts of a value of the program
abbrev pub link_read : Linked → Link
link_read linked = (linked.power, references_left linked.references)
