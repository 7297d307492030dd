-- The output of `show` for the links of a message.
use Rattle.std.specs.Borrow.{Bor}
use Rattle.std.specs.BTreeMap.{BTreeMap}
use Rattle.std.specs.Prelude.{◌≡◌, ◌≢◌, ◌⊎◌, ◌+◌, ◌<◌, IfSome, ℕ, List, [], ◌∷◌, ◌++◌, codes, decimal, Option, None, Some, Ok}
use Rattle.ndef_format.specs.Messages.{Item}
use Rattle.ndef_format.specs.declared.profile.Profile.{Profile}
use Rattle.ndef_format.specs.Handovers.{IsAlternative}
use Rattle.ndef_format.specs.declared.kind.Kind.TheVariants as kinds
use Rattle.ndef_types.specs.Ids.{index_at}
use Rattle.ndef_types.specs.Links.{FindsLinks, IsIndexOf}
use Rattle.ndef_types.specs.Values.{StandsForAc}
use Rattle.ndef_types.specs.declared.link.Link.{Link}
use Rattle.ndef_types.specs.declared.power.Power.{Power}
use Rattle.ndef_types.specs.declared.power.Power.TheVariants.{Inactive, Active, Activating, Unknown}
use Rattle.ndef_cli.specs.Quoting.{Text, quoted}
use Rattle.ndef_tool.specs.declared.nested.Member.{Member}

-- Connection Handover 1.2, Alternative Carrier record, carrier power state
abbrev pub power_name : Power → Text
power_name Inactive = codes "inactive"
power_name Active = codes "active"
power_name Activating = codes "activating"
power_name Unknown = codes "unknown"

-- the number of the record at an index, from 1
abbrev pub record_name : Option ℕ → Text
record_name None = codes "none"
record_name (Some index) = decimal (index + 1)

-- NDEF 1.0, messages: the index is one of a record of a message of at most 65535
abbrev pub HasNumber : Option ℕ → Type 0
HasNumber index = IfSome index (λ k. k < 65535)

-- the line of a link with these parts, with its number
abbrev pub link_text : ℕ → Power → (reference : List ℕ) → Option ℕ → Text
link_text number power reference index =
    codes " carrier " ++ decimal number ++ codes " power " ++ power_name power ++ codes " reference "
    ++ quoted reference ++ codes " record " ++ record_name index ++ codes "\n"

-- the line of a link, with its number
abbrev pub link_line : ℕ → Link → Text
link_line number link = link_text number link.ac.power link.ac.reference link.index

-- the lines of links, of which the first has this number
abbrev pub link_lines : ℕ → List Link → Text
link_lines number [] = []
link_lines number (link ∷ links) = link_line number link ++ link_lines (number + 1) links

-- the lines of the links of a message
abbrev pub AreLinkLines : Profile → List Item → Text → Type 0
AreLinkLines profile items text = (links : List Link) × FindsLinks profile items (Ok links)
    × (text ≡ link_lines 1 links)

-- ---- from the records of the handover

-- NDEF 1.0, ID: the records of a message by their ids
abbrev pub FindsIds : List Item → BTreeMap (Bor (List ℕ)) ℕ → Type 0
FindsIds items ids = (id : List ℕ) → id ≢ [] → IsIndexOf items id (index_at ids id)

-- Connection Handover 1.2: an alternative carrier has a payload of its own
abbrev pub IsCarrier : Member → Type 0
IsCarrier m = m.kind ≡ kinds.Alternative → IsAlternative m.payload.now

-- the lines of the links of the alternative carriers among the records of a handover, numbered from this one on
abbrev pub AreCarrierLines : List Item → ℕ → List Member → Text → Type 0
AreCarrierLines outer number [] text = text ≡ []
AreCarrierLines outer number (m ∷ members) text =
    ((m.kind ≡ kinds.Alternative) × (link : Link) × (rest : Text) × StandsForAc m.payload.now link.ac
    × IsIndexOf outer link.ac.reference link.index × AreCarrierLines outer (number + 1) members rest
    × (text ≡ link_line number link ++ rest))
    ⊎ ((m.kind ≢ kinds.Alternative) × AreCarrierLines outer number members text)
