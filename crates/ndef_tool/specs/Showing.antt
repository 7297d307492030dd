-- The output of `show` for the records of a message: the values of their payloads.
use Rattle.std.specs.Prelude.{◌≡◌, ◌+◌, ℕ, List, [], ◌∷◌, ◌++◌, length, codes, decimal, Option, None, Some, encode_utf8_all}
use Rattle.ndef_format.specs.Messages.{Item}
use Rattle.ndef_format.specs.Records.{code}
use Rattle.ndef_format.specs.declared.profile.Profile.{Profile}
use Rattle.ndef_value.specs.declared.limits.TheConstants.{MOST_RECORDS}
use Rattle.ndef_format.specs.Kinds.{kind_of}
use Rattle.ndef_format.specs.declared.kind.Kind.{Kind}
use Rattle.ndef_format.specs.declared.kind.Kind.TheVariants as kinds
use Rattle.ndef_format.specs.Payloads.{IsKindPayload}
use Rattle.ndef_types.specs.Handovers.{RequestValue, SelectValue, StandsForRequest, StandsForSelect}
use Rattle.ndef_types.specs.Links.{alternatives, records_of}
use Rattle.ndef_types.specs.Posters.{IsUriOf, Says, StandsForPoster, action_in, size_in, titles}
use Rattle.ndef_types.specs.Values.{CarrierValue, TextValue, StandsForCarrier, StandsForText, StandsForUri}
use Rattle.ndef_types.specs.declared.action.Action.{Action}
use Rattle.ndef_types.specs.declared.action.Action.TheVariants.{Do, Save, Open, Other}
use Rattle.ndef_types.specs.declared.encoding.Encoding.{Encoding}
use Rattle.ndef_types.specs.declared.encoding.Encoding.TheVariants.{Utf8, Utf16}
use Rattle.ndef_cli.specs.Quoting.{Text, quoted}

-- a text of this sort is appended
abbrev pub Adds : (before after : Text) → (Text → Type 0) → Type 0
Adds before after is = (text : Text) × (after ≡ before ++ text) × is text

-- ---- texts and URIs

-- RTD Text 1.0, status octet: the name of an encoding
abbrev pub encoding_name : Encoding → Text
encoding_name Utf8 = codes "utf-8"
encoding_name Utf16 = codes "utf-16"

-- RTD Text 1.0: the encoding, the language code and the text, this in UTF-8
abbrev pub reported_text : TextValue → Text
reported_text v =
    codes " text " ++ encoding_name v.encoding ++ codes " " ++ quoted v.language ++ codes " "
    ++ quoted (encode_utf8_all v.text)

-- RTD URI 1.0: the whole URI
abbrev pub reported_uri : List ℕ → Text
reported_uri uri = codes " uri " ++ quoted uri

-- ---- smart posters

-- RTD Smart Poster 1.0, recommended action record
abbrev pub action_name : Option Action → Text
action_name None = codes "none"
action_name (Some Do) = codes "do"
action_name (Some Save) = codes "save"
action_name (Some Open) = codes "open"
action_name (Some (Other octet)) = codes "other " ++ decimal octet

-- RTD Smart Poster 1.0, size record
abbrev pub size_name : Option ℕ → Text
size_name None = codes "none"
size_name (Some size) = decimal size

-- RTD Smart Poster 1.0, type record
abbrev pub media_name : Option (List ℕ) → Text
media_name None = codes "none"
media_name (Some media) = quoted media

-- RTD Smart Poster 1.0: the number of records of a poster, its URI, and its number of titles
abbrev pub poster_front : (records : ℕ) → (uri : List ℕ) → (titles : ℕ) → Text
poster_front records uri titles =
    codes " poster records " ++ decimal records ++ codes " uri " ++ quoted uri
    ++ codes " titles " ++ decimal titles

-- RTD Smart Poster 1.0: what a poster recommends, and the size and the media type of what it refers
-- to
abbrev pub poster_back : Option Action → Option ℕ → Option (List ℕ) → Text
poster_back action size media =
    codes " action " ++ action_name action ++ codes " size " ++ size_name size
    ++ codes " media " ++ media_name media

-- RTD Smart Poster 1.0: the values of the records of a poster
abbrev pub TellsPoster : List Item → Text → Type 0
TellsPoster items text =
    (uri : List ℕ) × (action : Option Action) × (size : Option ℕ) × (media : Option (List ℕ))
    × IsUriOf items uri × Says kinds.Action action_in items action
    × Says kinds.Size size_in items size
    × Says kinds.MediaType (λ i. i.payload) items media
    × (text ≡ poster_front (length items) uri (length (titles items))
    ++ poster_back action size media)

-- ---- handovers

-- the text before the minor version of a handover
abbrev pub handover_word : Kind → Text
handover_word kinds.Request = codes " request version 1."
handover_word _ = codes " select version 1."

-- Connection Handover 1.2, Handover Request and Select records: the minor version, and the number of carriers
abbrev pub reported_handover : Kind → (minor : ℕ) → List Item → Text
reported_handover kind minor items =
    handover_word kind ++ decimal minor ++ codes " carriers " ++ decimal (length (alternatives items))

-- Connection Handover 1.2, Handover Carrier record: the format and the type, and the number of
-- octets of data
abbrev pub reported_carrier : CarrierValue → Text
reported_carrier v =
    codes " carrier format " ++ decimal v.format ++ codes " type " ++ quoted v.kind
    ++ codes " data "
    ++ decimal (length v.carried)

-- ---- records

-- the output for the value of a payload of the kind
abbrev pub PrintsValue : Kind → Profile → List ℕ → Text → Type 0
PrintsValue kinds.Text profile payload text =
    (v : TextValue) × StandsForText payload v × (text ≡ reported_text v)
PrintsValue kinds.Uri profile payload text =
    (uri : List ℕ) × StandsForUri payload uri × (text ≡ reported_uri uri)
PrintsValue kinds.SmartPoster profile payload text =
    (items : List Item) × StandsForPoster profile payload items × TellsPoster items text
PrintsValue kinds.Request profile payload text =
    (v : RequestValue) × StandsForRequest profile payload v
    × (text ≡ reported_handover kinds.Request v.minor v.items)
PrintsValue kinds.Select profile payload text =
    (v : SelectValue) × StandsForSelect profile payload v
    × (text ≡ reported_handover kinds.Select v.minor (records_of v.message))
PrintsValue kinds.Carrier profile payload text = (v : CarrierValue) × StandsForCarrier payload v
    × (text ≡ reported_carrier v)
PrintsValue kinds.Other profile payload text = text ≡ codes " other"
PrintsValue kinds.Action profile payload text = text ≡ codes " other"
PrintsValue kinds.Size profile payload text = text ≡ codes " other"
PrintsValue kinds.MediaType profile payload text = text ≡ codes " other"
PrintsValue kinds.Alternative profile payload text = text ≡ codes " other"
PrintsValue kinds.Collision profile payload text = text ≡ codes " other"
PrintsValue kinds.Error profile payload text = text ≡ codes " other"

-- the payload of a record is one of its type
abbrev pub IsTyped : Profile → Item → Type 0
IsTyped profile i = IsKindPayload (kind_of i.tnf i.kind) MOST_RECORDS profile i.payload

-- NDEF 1.0, record layout: the number of a record, its type name format, its type, its id and the
-- length of its payload
abbrev pub record_front : ℕ → Item → Text
record_front number i =
    codes " " ++ decimal number ++ codes " tnf " ++ decimal (code i.tnf) ++ codes " type "
    ++ quoted i.kind
    ++ codes " id " ++ quoted i.id
    ++ codes " payload " ++ decimal (length i.payload)

-- the line of a record
abbrev pub IsRecordLine : Profile → ℕ → Item → Text → Type 0
IsRecordLine profile number i line =
    (reported : Text) × PrintsValue (kind_of i.tnf i.kind) profile i.payload reported
    × (line ≡ record_front number i ++ reported ++ codes "\n")

-- the lines of records, of which the first has this number
abbrev pub AreRecordLines : Profile → ℕ → List Item → Text → Type 0
AreRecordLines profile number [] text = text ≡ []
AreRecordLines profile number (i ∷ items) text =
    (line : Text) × (rest : Text) × IsRecordLine profile number i line
    × AreRecordLines profile (number + 1) items rest
    × (text ≡ line ++ rest)
