-- The values that may be written: those that a strict reader takes, but for those that the standards forbid (RTD
-- Text 1.0, RTD URI 1.0, RTD Smart Poster 1.0, Connection Handover 1.2).
use Rattle.std.specs.Prelude.{◌≡◌, ◌==◌, ◌&&◌, ◌||◌, ◌%◌, ℕ, Bool, true, false, List, [], ◌∷◌, take, nat_lt, Option, Some, None, if◌then◌else◌}
use Rattle.std.specs.List.{list_any}
use Rattle.std.specs.Str.{str_eq_ignore_ascii_case}
use Rattle.ndef_format.specs.Kinds.{kind_of}
use Rattle.ndef_format.specs.Messages.{Item}
use Rattle.ndef_format.specs.declared.kind.Kind.{Kind}
use Rattle.ndef_format.specs.declared.kind.Kind.TheVariants as kinds
use Rattle.ndef_format.specs.declared.profile.Profile.TheVariants.{Strict}
use Rattle.ndef_types.specs.Handovers.{RequestValue, StandsForRequest}
use Rattle.ndef_types.specs.Posters.{StandsForPoster}
use Rattle.ndef_cli_make.specs.declared.usage_error.UsageError.{UsageError}
use Rattle.ndef_cli_make.specs.declared.usage_error.UsageError.TheVariants as usage_error

-- ---- one record

-- RTD URI 1.0, URI field: a character from 0 to 31
abbrev pub is_control : ℕ → Bool
is_control byte = nat_lt byte 32

-- RTD URI 1.0, URI field: a reader discards a URI with such a character, after the identifier code
abbrev pub has_control : List ℕ → Bool
has_control [] = false
has_control (code ∷ rest) = list_any is_control rest

-- RTD Text 1.0, status octet: the language code has no octet
abbrev pub lacks_language : List ℕ → Bool
lacks_language [] = true
lacks_language (status ∷ rest) = status % 64 == 0

-- whether a payload of this kind has such a character
abbrev pub is_bad_uri_payload : Kind → List ℕ → Bool
is_bad_uri_payload kinds.Uri payload = has_control payload
is_bad_uri_payload _ payload = false

-- the same of a record
abbrev pub is_bad_uri : Item → Bool
is_bad_uri i = is_bad_uri_payload (kind_of i.tnf i.kind) i.payload

-- whether the kind is a text
abbrev pub is_text_kind : Kind → Bool
is_text_kind kinds.Text = true
is_text_kind _ = false

-- the same of a record
abbrev pub is_text_item : Item → Bool
is_text_item i = is_text_kind (kind_of i.tnf i.kind)

-- RTD Text 1.0, language code: a text without one
abbrev pub is_bad_text : Item → Bool
is_bad_text i = is_text_item i && lacks_language i.payload

-- what is forbidden, by these
abbrev pub bar_by : (bad_uri bad_text : Bool) → Option UsageError
bar_by true bad_text = Some usage_error.Control
bar_by false true = Some usage_error.NoLanguage
bar_by false false = None

-- RTD URI 1.0 and RTD Text 1.0: the error for a forbidden URI or text, if there is one
abbrev pub bar_of : Item → Option UsageError
bar_of i = bar_by (is_bad_uri i) (is_bad_text i)

-- the same of one of the records
abbrev pub bar_in : List Item → Option UsageError
bar_in items = bar_by (list_any is_bad_uri items) (list_any is_bad_text items)

-- ---- posters

-- RTD Text 1.0, language code: that of a payload
abbrev pub language_in : List ℕ → List ℕ
language_in [] = []
language_in (status ∷ rest) = take (status % 64) rest

-- RTD Text 1.0, language code, and RFC 5646, section 2.1.1: the same language, the case of letters aside
abbrev pub is_language_of : Item → Item → Bool
is_language_of i j = str_eq_ignore_ascii_case (language_in i.payload) (language_in j.payload)

-- RTD Smart Poster 1.0, title record: two titles in one language
abbrev pub is_twin : Item → Item → Bool
is_twin i j = is_text_item i && (is_text_item j && is_language_of i j)

-- RTD Smart Poster 1.0, title record: whether two of the records are such titles
abbrev pub have_twins : List Item → Bool
have_twins [] = false
have_twins (i ∷ items) = list_any (is_twin i) items || have_twins items

-- the error for a forbidden value in one record, or else in two
abbrev pub bar_or_twins : Option UsageError → (twins : Bool) → Option UsageError
bar_or_twins (Some m) twins = Some m
bar_or_twins None twins = if twins then Some usage_error.TwoTitles else None

-- RTD Smart Poster 1.0: the error for a forbidden value in the records of a poster, if there is one
abbrev pub poster_bar : List Item → Option UsageError
poster_bar items = bar_or_twins (bar_in items) (have_twins items)

-- ---- handovers

-- whether the kind is an alternative carrier
abbrev pub is_alternative_kind : Kind → Bool
is_alternative_kind kinds.Alternative = true
is_alternative_kind _ = false

-- the same of a record
abbrev pub is_alternative : Item → Bool
is_alternative i = is_alternative_kind (kind_of i.tnf i.kind)

-- Connection Handover 1.2, Handover Request record: it has at least one alternative carrier
abbrev pub request_bar : List Item → Option UsageError
request_bar items = if list_any is_alternative items then None else Some usage_error.NoCarrier

-- ---- a record

-- the error for a forbidden value in a record of this kind, if any: in a poster or a request by the message's records
-- in its payload
abbrev pub HasBarOf : Kind → Item → Option UsageError → Type 0
HasBarOf kinds.SmartPoster i bar =
    (items : List Item) × StandsForPoster Strict i.payload items × (bar ≡ poster_bar items)
HasBarOf kinds.Request i bar =
    (v : RequestValue) × StandsForRequest Strict i.payload v × (bar ≡ request_bar v.items)
HasBarOf _ i bar = bar ≡ bar_of i

-- RTD Text 1.0, RTD URI 1.0, RTD Smart Poster 1.0 and Connection Handover 1.2: the same of a record
abbrev pub HasBar : Item → Option UsageError → Type 0
HasBar i bar = HasBarOf (kind_of i.tnf i.kind) i bar
