-- The records that parts ask for (NFC Forum, NDEF 1.0, RTD Text 1.0 and RTD URI 1.0).
use Rattle.std.specs.Prelude.{nat_lt, if◌then◌else◌, ◌++◌, ◌∷◌, ◌≡◌, ◌<◌, ◌≤◌, ◌^◌, ◌⊎◌, ℕ, Bool, true, false, List, [], length, Option, Some, None, Result, Ok, Err, ⊤, option_and_then, option_map, codes, chars, IsAscii, Vec}
use Rattle.std.specs.declared.alloc.Global.{Global}
use Rattle.clap.specs.Words.{Row, Text, first_of}
use Rattle.ndef_format.specs.Canonical.{HasLengths}
use Rattle.ndef_format.specs.Messages.{IsShaped, Item}
use Rattle.ndef_format.specs.declared.tnf.Tnf.TheVariants.{External, Media, WellKnown}
use Rattle.ndef_types.specs.Decoding.{IsTooLong}
use Rattle.ndef_types.specs.Values.{TextValue, WritesText, WritesUri}
use Rattle.ndef_types.specs.declared.encoding.Encoding.{Encoding}
use Rattle.ndef_types.specs.declared.encoding.Encoding.TheVariants.{Utf8, Utf16}
use Rattle.ndef_cli.specs.Options.{flag_of}
use Rattle.ndef_cli_make.specs.Options.{id_said, joined_at, is_colon, is_slash, tnf_named, word_or}
use Rattle.ndef_cli_make.specs.declared.fault.Fault.{Fault}
use Rattle.ndef_cli_make.specs.declared.usage_error.UsageError.{UsageError}
use Rattle.ndef_cli_make.specs.declared.fault.Fault.TheVariants.{Usage, Refused, Memory}
use Rattle.ndef_cli_make.specs.declared.fault.Refused.TheVariants.{LanguageTooLong, LanguageNotAscii, PayloadTooLong, BadShape, PartTooLong}

-- the result for a part: a record, or why there is none
abbrev pub Answer : Type 0
Answer = Result Item Fault

-- NDEF 1.0, record layout: a record of a well-known type, without an id
abbrev pub typed_record : Text → List ℕ → Item
typed_record kind payload = record { tnf = WellKnown; kind = kind; id = []; payload = payload }

-- ---- texts

-- the encoding of a text
abbrev pub encoding_for : Bool → Encoding
encoding_for false = Utf8
encoding_for true = Utf16

-- RTD Text 1.0: the text of a part; its language is English where none is given
abbrev pub text_said : List Row → Option TextValue
text_said rows = option_map (λ text. record {
  encoding = encoding_for (flag_of (codes "utf16") rows);
  language = word_or (codes "language") (codes "en") rows;
  text = chars text;
}) (first_of (codes "text") rows)

-- RTD Text 1.0: the record of a text; none where its language code isn't ASCII of up to 63 octets,
-- or its payload is too long
abbrev pub MakesText : TextValue → Answer → Type 0
MakesText v (Ok i) = (length v.language ≤ 63) × IsAscii v.language × WritesText v i.payload
    × (length i.payload < 2 ^ 32) × (i ≡ typed_record (codes "T") i.payload)
MakesText v (Err (Refused LanguageTooLong)) = 63 < length v.language
MakesText v (Err (Refused LanguageNotAscii)) = (length v.language ≤ 63) × (IsAscii v.language → ⊥)
MakesText v (Err (Refused PayloadTooLong)) =
    (length v.language ≤ 63) × IsAscii v.language × IsTooLong WritesText v
MakesText v (Err Memory) = (length v.language ≤ 63) × IsAscii v.language
MakesText v (Err _) = ⊥

-- ---- URIs

-- RTD URI 1.0: the URI of a part
abbrev pub uri_said : List Row → Option Text
uri_said rows = first_of (codes "uri") rows

-- RTD URI 1.0: the record of a URI; none where its payload is too long
abbrev pub MakesUri : Text → Answer → Type 0
MakesUri uri (Ok i) =
    WritesUri uri i.payload × (length i.payload < 2 ^ 32) × (i ≡ typed_record (codes "U") i.payload)
MakesUri uri (Err (Refused PayloadTooLong)) = IsTooLong WritesUri uri
MakesUri uri (Err Memory) = ⊤
MakesUri uri (Err _) = ⊥

-- ---- records of given parts

-- NDEF 1.0, record layout: the type name format, the type and the id of a part; no type or id where
-- it isn't given
abbrev pub item_said : List Row → List ℕ → Option Item
item_said rows payload = option_map (λ tnf. record {
  tnf = tnf;
  kind = word_or (codes "type") [] rows;
  id = id_said rows;
  payload = payload;
}) (option_and_then tnf_named (first_of (codes "tnf") rows))

-- NDEF 1.0, TNF 2, and RFC 2046: the media type of a part, a type, a slash and a subtype
abbrev pub media_type : List Row → Option Text
media_type rows = option_and_then (joined_at is_slash) (first_of (codes "type") rows)

-- NDEF 1.0, TNF 2: the record of the media type of a part
abbrev pub media_said : List Row → List ℕ → Option Item
media_said rows payload =
    option_map (λ kind. record { tnf = Media; kind = kind; id = id_said rows; payload = payload })
    (media_type rows)

-- NDEF 1.0, TNF 4: the external type of a part, a domain, a colon and a name
abbrev pub external_type : List Row → Option Text
external_type rows = option_and_then (joined_at is_colon) (first_of (codes "type") rows)

-- NDEF 1.0, TNF 4: the record of the external type of a part
abbrev pub external_said : List Row → List ℕ → Option Item
external_said rows payload =
    option_map (λ kind. record { tnf = External; kind = kind; id = id_said rows; payload = payload })
    (external_type rows)

-- Android, application records: the package of a part, which has a name
abbrev pub package_said : List Row → Option Text
package_said rows = option_and_then (λ name. if nat_lt 0 (length name) then Some name else None)
    (first_of (codes "package") rows)

-- Android, application records: the record of the package of a part
abbrev pub app_said : List Row → Option Item
app_said rows = option_map (λ name. record {
  tnf = External;
  kind = codes "android.com:pkg";
  id = id_said rows;
  payload = name;
}) (package_said rows)

-- NDEF 1.0, record layout: the record, where its parts go together and none is too long. Memory
-- runs out only where neither of the two refusals holds
abbrev pub MakesItem : Item → Answer → Type 0
MakesItem i (Ok made) = (made ≡ i) × IsShaped i × HasLengths i
MakesItem i (Err (Refused BadShape)) = IsShaped i → ⊥
MakesItem i (Err (Refused PartTooLong)) = IsShaped i × (HasLengths i → ⊥)
MakesItem i (Err Memory) = ((IsShaped i → ⊥) → ⊥) × ((HasLengths i → ⊥) → ⊥)
MakesItem i (Err _) = ⊥

-- NDEF 1.0, ID: the record with this id, where there is one; or why it isn't made
abbrev pub IsNamed : Option Text → (bare : Answer) → Answer → Type 0
IsNamed None bare answer = answer ≡ bare
IsNamed (Some id) (Ok bare) answer = MakesItem (record bare { id = id }) answer
IsNamed (Some id) (Err fault) answer = answer ≡ Err fault

-- NDEF 1.0, ID: what is made, with this id, where there is one
abbrev pub MakesNamed : Option Text → (makes : Answer → Type 0) → Answer → Type 0
MakesNamed id makes answer = (bare : Answer) × makes bare × IsNamed id bare answer

-- -- the values of the words

-- the record of a value; if there is none, these words are wrong
abbrev pub MakesSaid : {X : Type 0} → UsageError → (X → Answer → Type 0) → Option X → Answer → Type 0
MakesSaid usage_error makes None answer = answer ≡ Err (Usage usage_error)
MakesSaid usage_error makes (Some x) answer = makes x answer

-- the records of the values, in order
abbrev pub AreMadeBy : {X : Type 0} → (X → Answer → Type 0) → List X → List Item → Type 0
AreMadeBy makes [] [] = ⊤
AreMadeBy makes (x ∷ xs) (i ∷ items) = makes x (Ok i) × AreMadeBy makes xs items
AreMadeBy makes _ _ = ⊥

-- nothing is made, or memory to keep it runs out
abbrev pub IsUnmade : {Y : Type 0} → (Result Y Fault → Type 0) → Fault → Type 0
IsUnmade {Y} makes Memory = makes (Err Memory) ⊎ ((y : Y) × makes (Ok y))
IsUnmade makes fault = makes (Err fault)

-- the first of which no record is made, and why; memory runs out only for one that isn't refused
abbrev pub FailsBy : {X : Type 0} → (X → Answer → Type 0) → List X → Fault → Type 0
FailsBy {X} makes xs fault =
    (done : List X) × (items : List Item) × (x : X) × (rest : List X) × (xs ≡ done ++ x ∷ rest)
    × AreMadeBy makes done items × IsUnmade (makes x) fault

-- the records of the values, or why there are none
abbrev pub AreAnsweredBy : {X : Type 0} → (X → Answer → Type 0) → List X
    → Result (Vec Item Global) Fault → Type 0
AreAnsweredBy makes xs (Ok records) = AreMadeBy makes xs records.items
AreAnsweredBy makes xs (Err fault) = FailsBy makes xs fault
