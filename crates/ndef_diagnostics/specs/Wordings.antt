-- The sentence for the expectation.
use Rattle.std.specs.Prelude.{ℕ, ◌++◌, ◌==◌, if◌then◌else◌, List, codes, decimal}
use Rattle.ndef_format.specs.Kinds.{kind_name}
use Rattle.ndef_format.specs.Sentences.{reason_sentence}
use Rattle.ndef_format.specs.declared.kind.Kind.{Kind}
use Rattle.ndef_format.specs.declared.kind.Kind.TheVariants as kinds
use Rattle.ndef_format.specs.declared.reason.Reason.{Reason}
use Rattle.ndef_fields.specs.Names.{name_text}
use Rattle.ndef_fields.specs.declared.name.FieldName.{FieldName}
use Rattle.ndef_fields.specs.declared.name.FieldName.TheVariants as names
use Rattle.ndef_diagnostics.specs.declared.expected.Expected.{Expected}
use Rattle.ndef_diagnostics.specs.declared.expected.Expected.TheVariants as expected
use Rattle.ndef_diagnostics.specs.declared.expected.Whose.{Whose}
use Rattle.ndef_diagnostics.specs.declared.expected.Whose.TheVariants as whose

-- ---- words

-- a number, and the noun that it counts
abbrev pub counted : ℕ → (one more : List ℕ) → List ℕ
counted n one more = decimal n ++ (if n == 1 then one else more)

-- a number of octets
abbrev pub octets_text : ℕ → List ℕ
octets_text n = counted n (codes " octet") (codes " octets")

-- the given length or number, as the end of a sentence
abbrev pub given_text : ℕ → List ℕ
given_text n = counted n (codes " was given.") (codes " were given.")

-- the octets left in the payload, as the end of a sentence
abbrev pub left_text : ℕ → List ℕ
left_text n = counted n (codes " is left") (codes " are left") ++ codes " in the payload."

-- RTD 1.0, well-known types: a payload of this kind, as the subject of a sentence
abbrev pub kind_noun : Kind → List ℕ
kind_noun kinds.Text = codes "A text"
kind_noun kinds.Uri = codes "A URI"
kind_noun kinds.SmartPoster = codes "A smart poster"
kind_noun kinds.Request = codes "A handover request"
kind_noun kinds.Select = codes "A handover select"
kind_noun kinds.Carrier = codes "A handover carrier"
kind_noun kinds.Action = codes "An action"
kind_noun kinds.Size = codes "A size"
kind_noun kinds.MediaType = codes "A media type"
kind_noun kinds.Alternative = codes "An alternative carrier"
kind_noun kinds.Collision = codes "A collision record"
kind_noun kinds.Error = codes "An error"
kind_noun kinds.Other = codes "A payload"

-- the same, with the name of the kind
abbrev pub kind_text : Kind → List ℕ
kind_text kind = kind_noun kind ++ codes " (`" ++ kind_name kind ++ codes "`)"

-- a field, within a sentence
abbrev pub field_text : FieldName → List ℕ
field_text names.Payload = codes "the payload"
field_text name = name_text name

-- ---- sentences

-- NDEF 1.0, record layout: octets of a field are missing
abbrev pub missing_text : FieldName → ℕ → List ℕ
missing_text name n =
    octets_text n ++ codes " of " ++ field_text name ++ (if n == 1 then codes " is missing." else codes " are missing.")

-- a kind of payload has a length
abbrev pub length_text : Kind → (there given : ℕ) → List ℕ
length_text kind there given =
    kind_text kind ++ codes " has " ++ octets_text there ++ codes "; " ++ given_text given

-- a kind of payload has a least length
abbrev pub least_text : Kind → (least given : ℕ) → List ℕ
least_text kind least given =
    kind_text kind ++ codes " has at least " ++ octets_text least ++ codes "; " ++ given_text given

-- Connection Handover 1.2, Handover Select record: its version alone, or a message after it
abbrev pub select_text : (given : ℕ) → List ℕ
select_text given = codes "A handover select (`Hs`) has 1 octet, or at least 4; " ++ given_text given

-- Connection Handover 1.2, Error record: the data of a reason has a length
abbrev pub error_text : (reason there given : ℕ) → List ℕ
error_text reason there given =
    codes "The data of error reason " ++ decimal reason ++ codes " has " ++ octets_text there
    ++ codes "; " ++ given_text given

-- NDEF 1.0, record layout, ME, RTD Smart Poster 1.0 and Connection Handover 1.2: what has a size, as the subject, to
-- the number of its octets
abbrev pub whose_text : Whose → (size : ℕ) → List ℕ
whose_text (whose.Field name) size = codes "The " ++ name_text name ++ codes " has "
whose_text whose.Auxiliary size =
    decimal size ++ codes " auxiliary reference" ++ (if size == 1 then codes " has" else codes "s have")
    ++ codes " to follow, of at least "
whose_text whose.Record size = codes "This record has at least "
whose_text whose.LastRecord size = codes "This record is the last (ME) and has "
whose_text whose.NextRecord size = codes "Another record has to follow (ME is clear), of at least "
whose_text whose.AfterShortest size =
    codes "After this record at its shortest another has to follow (ME is clear), of at least "
whose_text whose.LastUri size = codes "The last record (ME) of this poster has to be its URI (`U`), of at least "
whose_text whose.NextUri size =
    codes "The URI (`U`) of this smart poster has to follow (ME is clear), in a record of at least "
whose_text whose.Collision size = codes "A request begins with a collision record (`cr`), here of at least "
whose_text whose.LastCollision size =
    codes "A request begins with a collision record (`cr`), which as the last (ME) has "
whose_text whose.AfterCollision size =
    codes "After its collision record (`cr`) another record has to follow (ME is clear), of at least "

-- what has a size doesn't fit what is left
abbrev pub size_text : Whose → (size left : ℕ) → List ℕ
size_text w size left = whose_text w size ++ octets_text size ++ codes "; " ++ left_text left

-- RTD Smart Poster 1.0: none of the records is a URI
abbrev pub poster_text : (number : ℕ) → List ℕ
poster_text number =
    codes "Record " ++ decimal number ++ codes " is the last of this smart poster, and none is a URI (`U`)."

-- RTD Smart Poster 1.0: two of the records are URIs
abbrev pub second_text : (number : ℕ) → List ℕ
second_text number = codes "Record " ++ decimal number ++ codes " is a second URI (`U`) in this smart poster."

-- Connection Handover 1.2, Collision Resolution record: it has two octets
abbrev pub collision_text : (given : ℕ) → List ℕ
collision_text given = codes "A request begins with a collision record (`cr`) of 2 octets; " ++ given_text given

-- NDEF 1.0, RTD Text 1.0, RTD URI 1.0, RTD Smart Poster 1.0 and Connection Handover 1.2: the sentence for the
-- expectation, or the meaning of the reason
abbrev pub expected_text : Reason → Expected → List ℕ
expected_text reason expected.Nothing = reason_sentence reason
expected_text reason expected.Message = codes "A message is missing: the input has no bytes."
expected_text reason expected.NextRecord = codes "Another record is missing: none of those before has ME set."
expected_text reason expected.NextChunk = codes "Another chunk of the record is missing: the last one has CF set."
expected_text reason (expected.Missing name n) = missing_text name n
expected_text reason (expected.FixedLength kind there given) = length_text kind there given
expected_text reason (expected.LeastLength kind least given) = least_text kind least given
expected_text reason (expected.SelectLength given) = select_text given
expected_text reason (expected.ErrorLength error there given) = error_text error there given
expected_text reason expected.EvenText = codes "The text in UTF-16 has an odd number of octets."
expected_text reason expected.WholeCharacter = codes "The payload ends within a character of the text."
expected_text reason expected.AuxiliaryCount =
    codes "The alternative carrier ends before its number of auxiliary references."
expected_text reason (expected.Size w size left) = size_text w size left
expected_text reason (expected.UriInPoster number) = poster_text number
expected_text reason expected.EmptyUri =
    codes "The last record (ME) of this poster has to be its URI (`U`), whose payload is never empty."
expected_text reason (expected.OneUri number) = second_text number
expected_text reason expected.CollisionFirst =
    codes "This request must begin with a collision record (`cr`); its first record is another."
expected_text reason (expected.CollisionLength given) = collision_text given
