-- Editing a message: which of its records parts leave out or replace, and which they add.
use Rattle.std.specs.Prelude.{◌||◌, drop, not, ◌≡◌, ◌<◌, ◌+◌, ◌++◌, ◌&&◌, ◌==◌, ℕ, Bool, false, List, [], ◌∷◌, length, map, nat_le, take, Option, Some, None, Result, Ok, Err, ⊤, codes, if◌then◌else◌, option_and_then, option_map, string_bytes, Vec}
use Rattle.std.specs.declared.alloc.Global.{Global}
use Rattle.std.specs.List.{filter, find, flat_map, list_any, slice_get}
use Rattle.std.specs.Option.{option_map_or}
use Rattle.std.specs.Str.{bytes_eq}
use Rattle.clap.specs.Words.{HasKind, Text, fault_of}
use Rattle.clap.specs.declared.error.Error.{Error}
use Rattle.ndef_cli.specs.Options.{flag_of, number_in}
use Rattle.ndef_cli_make.specs.Asked.{AskedPart, asked_part, has_word, part_in, parts_of}
use Rattle.ndef_cli_make.specs.CommandLine.{make_app}
use Rattle.ndef_cli_make.specs.References.{references_of}
use Rattle.ndef_cli_make.specs.declared.editing.Edit.{Edit}
use Rattle.ndef_cli_make.specs.declared.editing.Edit.TheVariants.{Keeps, Drops, Replaces, Adds}
use Rattle.ndef_cli_make.specs.declared.editing.EditWord.{EditWord}
use Rattle.ndef_cli_make.specs.declared.editing.EditWord.TheVariants as edit_word
use Rattle.ndef_cli_make.specs.declared.editing.Flags.{Flags}
use Rattle.ndef_cli_make.specs.declared.editing.Origin.{Origin}
use Rattle.ndef_cli_make.specs.declared.fault.Fault.{Fault}
use Rattle.ndef_cli_make.specs.declared.fault.Fault.TheVariants.{Usage, UsageAt, Memory}
use Rattle.ndef_cli_make.specs.declared.usage_error.UsageError.{UsageError}
use Rattle.ndef_cli_make.specs.declared.usage_error.UsageError.TheVariants as usage_error
use Rattle.ndef_cli_make.specs.declared.parts.ParsedPart.{ParsedPart}

-- ---- edits

-- the flags of a part
abbrev pub part_flags : AskedPart → Flags
part_flags part = record { hex = flag_of (codes "hex") part.1; raw = flag_of (codes "raw") part.1 }

-- the number of the record that is left out or replaced
abbrev pub number_of : {X : Type 0} → Edit X → Option ℕ
number_of (Keeps flags) = None
number_of (Drops n flags) = Some n
number_of (Replaces n x) = Some n
number_of (Adds x) = None

-- the record of an edit
abbrev pub record_of : {X : Type 0} → Edit X → Option X
record_of (Keeps flags) = None
record_of (Drops n flags) = None
record_of (Replaces n x) = Some x
record_of (Adds x) = Some x

-- the same edit of the value of a record
abbrev pub edit_map : {X Y : Type 0} → (X → Y) → Edit X → Edit Y
edit_map f (Keeps flags) = Keeps flags
edit_map f (Drops n flags) = Drops n flags
edit_map f (Replaces n x) = Replaces n (f x)
edit_map f (Adds x) = Adds (f x)

-- the flags of an edit
abbrev pub flags_of : Edit AskedPart → Flags
flags_of (Keeps flags) = flags
flags_of (Drops n flags) = flags
flags_of (Replaces n part) = part_flags part
flags_of (Adds part) = part_flags part

-- each flag that one of the edits has
abbrev pub flags_in : List (Edit AskedPart) → Flags
flags_in edits = record {
  hex = list_any (λ edit. (flags_of edit).hex) edits;
  raw = list_any (λ edit. (flags_of edit).raw) edits;
}

-- whether the record of an edit passes the test
abbrev pub passes : {X : Type 0} → (X → Bool) → Edit X → Bool
passes test edit = option_map_or test (record_of edit) false

-- one record, or none
abbrev pub one_or_none : {X : Type 0} → Option X → List X
one_or_none None = []
one_or_none (Some x) = x ∷ []

-- the records of edits, in order
abbrev pub records_in : {X : Type 0} → List (Edit X) → List X
records_in edits = flat_map (λ edit. one_or_none (record_of edit)) edits

-- the references of the record of an edit
abbrev pub edit_references : Edit AskedPart → List Text
edit_references edit = option_map_or references_of (record_of edit) []

-- ---- the records of an edited message

-- whether it is this number
abbrev pub has_number : ℕ → Option ℕ → Bool
has_number n number = option_map_or (λ m. m == n) number false

-- whether the record of this number is left out or replaced
abbrev pub names : {X : Type 0} → ℕ → Edit X → Bool
names n edit = has_number n (number_of edit)

-- the records in place of a record: itself, unless an edit names it
abbrev pub in_place : {X : Type 0} → Option (Edit X) → X → List X
in_place None x = x ∷ []
in_place (Some edit) x = one_or_none (record_of edit)

-- the records in place of these records, of which the first has this number
abbrev pub kept_from : {X : Type 0} → ℕ → List (Edit X) → List X → List X
kept_from n edits [] = []
kept_from n edits (x ∷ xs) = in_place (find (names n) edits) x ++ kept_from (n + 1) edits xs

-- the record that is added
abbrev pub added_by : {X : Type 0} → Edit X → List X
added_by (Adds x) = x ∷ []
added_by _ = []

-- the edit, where it leaves out or replaces a record
abbrev pub altered_by : {X : Type 0} → Edit X → List (Edit X)
altered_by (Drops n flags) = Drops n flags ∷ []
altered_by (Replaces n x) = Replaces n x ∷ []
altered_by _ = []

-- the records in place of each of the records, which are counted from 1, and then those that are added
abbrev pub edited : {X : Type 0} → (old : List X) → List (Edit X) → List X
edited old edits = kept_from 1 edits old ++ flat_map added_by edits

-- the fault of the number of an edit, after those of other edits: there are that many records
abbrev pub usage_error_after : (count : ℕ) → (others : List (Option ℕ)) → Option ℕ → Option UsageError
usage_error_after count others None = None
usage_error_after count others (Some n) = if nat_le 1 n && nat_le n count
    then (if list_any (has_number n) others then Some usage_error.Twice else None)
    else Some (usage_error.NoSuchRecord n count)

-- the same of the number at this place
abbrev pub usage_error_at : (count : ℕ) → List (Option ℕ) → ℕ → Option UsageError
usage_error_at count numbers at =
    option_and_then (λ number. usage_error_after count (take at numbers) number) (slice_get numbers at)

-- each number is that of a record, and of another one than those before it; or the first that isn't
abbrev pub AreNumbers : (count : ℕ) → List (Option ℕ) → Result Unit Fault → Type 0
AreNumbers count numbers (Ok done) = (at : ℕ) → usage_error_at count numbers at ≡ None
AreNumbers count numbers (Err (UsageAt n m)) = (at : ℕ) × (n ≡ at + 1)
    × (usage_error_at count numbers at ≡ Some m)
    × ((before : ℕ) → before < at → usage_error_at count numbers before ≡ None)
AreNumbers count numbers (Err _) = ⊥

-- ---- words

-- the name after `--from`, and the words of the parts
abbrev pub named_origin : List Text → Option (Option Text × List Text)
named_origin [] = None
named_origin (name ∷ parts) = Some (Some name, parts)

-- the name of the file of the message that is edited, where `--from` names one, and the words of the
-- parts
abbrev pub origin_in : List Text → Option (Option Text × List Text)
origin_in [] = Some (None, [])
origin_in (word ∷ words) =
    if bytes_eq word (codes "--from") then named_origin words else Some (None, word ∷ words)

-- the words of a value of the program
abbrev pub origin_words : Origin → Option Text × List Text
origin_words o = (option_map (λ name. name.now) o.file, map string_bytes o.parts.now)

-- the word with which a part begins that isn't a record alone
abbrev pub edit_named : Text → Option EditWord
edit_named name = if bytes_eq name (codes "--drop") then Some edit_word.Drop
    else (if bytes_eq name (codes "--replace") then Some edit_word.Replace else None)

-- whether a word is a flag
abbrev pub is_flag : Text → Bool
is_flag word = bytes_eq word (codes "--hex") || bytes_eq word (codes "--raw")

-- the words that are none
abbrev pub other_words : List Text → List Text
other_words words = filter (λ word. not (is_flag word)) words

-- the flags among words
abbrev pub flags_among : List Text → Flags
flags_among words = record { hex = has_word (codes "--hex") words; raw = has_word (codes "--raw") words }

-- the number of a record that is left out
abbrev pub drop_words : Flags → List Text → Option (Edit (List Text))
drop_words flags (number ∷ []) = option_map (λ n. Drops n flags) (number_in number)
drop_words flags _ = None

-- the number of a record, and the words of the one in its place
abbrev pub replace_words : List Text → Option (Edit (List Text))
replace_words [] = None
replace_words (number ∷ words) = option_map (λ n. Replaces n words) (number_in number)

-- the edit that a part requests by its first word that is no flag; flags may be around one without a record
abbrev pub edit_by : Option EditWord → (part rest : List Text) → Option (Edit (List Text))
edit_by (Some edit_word.Drop) part rest = drop_words (flags_among part) rest
edit_by (Some edit_word.Replace) part rest = replace_words (drop 1 part)
edit_by None part rest = Some (Adds part)

-- the same by all these
abbrev pub edit_of : (part others : List Text) → Option (Edit (List Text))
edit_of part [] = Some (Keeps (flags_among part))
edit_of part (word ∷ rest) = edit_by (edit_named word) part rest

-- the edit that a part requests, with the words of its record; without a file each part adds one
abbrev pub edit_in : (file : Option Text) → List Text → Option (Edit (List Text))
edit_in (Some name) (word ∷ words) = edit_of (word ∷ words) (other_words (word ∷ words))
edit_in file part = Some (Adds part)

-- an edit with what the words of its record say, where they say something
abbrev pub edit_or : (AskedPart → Edit AskedPart) → Option AskedPart → Result (Edit AskedPart) UsageError
edit_or makes None = Err usage_error.Words
edit_or makes (Some part) = Ok (makes part)

-- an edit with the meaning of its record, or the usage error of the words
abbrev pub edit_asked : Option (Edit (List Text)) → Result (Edit AskedPart) UsageError
edit_asked None = Err usage_error.Edit
edit_asked (Some (Keeps flags)) = Ok (Keeps flags)
edit_asked (Some (Drops n flags)) = Ok (Drops n flags)
edit_asked (Some (Replaces n words)) = edit_or (λ part. Replaces n part) (part_in words)
edit_asked (Some (Adds words)) = edit_or (λ part. Adds part) (part_in words)

-- the edit that the words of a part request, or the usage error of the words
abbrev pub edit_said : (file : Option Text) → List Text → Result (Edit AskedPart) UsageError
edit_said file words = edit_asked (edit_in file words)

-- the words between those that are `--and`; there may be none where a file is named
abbrev pub edit_parts : Option Text × List Text → List (List Text)
edit_parts (Some name, []) = []
edit_parts (file, words) = parts_of words

-- each part requests an edit
abbrev pub AskFor : (file : Option Text) → List (List Text) → List (Edit AskedPart) → Type 0
AskFor file parts edits = map (edit_said file) parts ≡ map (λ edit. Ok edit) edits

-- the first part that requests none, and why
abbrev pub IsWrongPart : (file : Option Text) → List (List Text) → ℕ → UsageError → Type 0
IsWrongPart file parts n m = (done rest : List (List Text)) × (part : List Text)
    × (edits : List (Edit AskedPart)) × (parts ≡ done ++ part ∷ rest) × AskFor file done edits
    × (edit_said file part ≡ Err m) × (n ≡ length done + 1)

-- what clap finds wrong with the record of an edit
abbrev pub IsRecordFault : Edit (List Text) → Error → Type 0
IsRecordFault edit error = (words : List Text) × (record_of edit ≡ Some words)
    × HasKind (fault_of make_app words) error

-- the same of one of the parts
abbrev pub IsEditFault : (file : Option Text) → List (List Text) → Error → Type 0
IsEditFault file parts error = (done rest : List (List Text)) × (part : List Text)
    × (edit : Edit (List Text)) × (parts ≡ done ++ part ∷ rest) × (edit_in file part ≡ Some edit)
    × IsRecordFault edit error

-- the same of the file that is edited, where one is named, and the words of the parts
abbrev pub IsArgsFault : Option (Option Text × List Text) → Error → Type 0
IsArgsFault None error = ⊥
IsArgsFault (Some origin) error = IsEditFault origin.0 (edit_parts origin) error

-- ---- step by step

-- the edit of a part, or the usage error of its words
abbrev pub ParsesEdit : (file : Option Text) → List Text → Result (Edit ParsedPart) Fault → Type 0
ParsesEdit file words (Ok edit) = edit_said file words ≡ Ok (edit_map asked_part edit)
ParsesEdit file words (Err (Usage m)) = edit_said file words ≡ Err m
ParsesEdit file words (Err Memory) = ⊤
ParsesEdit file words (Err _) = ⊥

-- the edits of the parts, or the first part whose words are wrong
abbrev pub AreParsed : (file : Option Text) → List (List Text) → Result (Vec (Edit ParsedPart) Global) Fault → Type 0
AreParsed file parts (Ok edits) = AskFor file parts (map (edit_map asked_part) edits.items)
AreParsed file parts (Err (UsageAt n m)) = IsWrongPart file parts n m
AreParsed file parts (Err Memory) = ⊤
AreParsed file parts (Err _) = ⊥
