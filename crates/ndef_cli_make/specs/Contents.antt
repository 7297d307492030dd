-- The contents of a poster or a handover: records, one for each word (RTD Smart Poster 1.0,
-- Connection Handover 1.2).
use Rattle.std.specs.Prelude.{option_map, ◌≡◌, ◌⊎◌, ℕ, Bool, not, List, [], ◌∷◌, ◌++◌, map, Option, Some, None, Result, Ok, Err, codes, if◌then◌else◌}
use Rattle.std.specs.List.{flat_map}
use Rattle.clap.specs.Words.{Row, Text}
use Rattle.ndef_format.specs.Messages.{Item}
use Rattle.ndef_format.specs.declared.tnf.Tnf.TheVariants.{Media}
use Rattle.ndef_cli_make.specs.Handovers.{AsksError, MakesAlternative, MakesHandoverOf, ac_said, collision_said, handover_said}
use Rattle.ndef_cli_make.specs.Options.{is_said, is_slash, joined_at, option_words}
use Rattle.ndef_cli_make.specs.Posters.{MakesNested, action_said, size_said, title_said}
use Rattle.ndef_cli_make.specs.Records.{Answer, AreMadeBy, MakesSaid, FailsBy, MakesItem, MakesText, MakesUri, typed_record}
use Rattle.ndef_cli_make.specs.declared.contents.Property.{Property}
use Rattle.ndef_cli_make.specs.declared.contents.Property.TheVariants as property
use Rattle.ndef_cli_make.specs.declared.contents.PropertyOption.{PropertyOption}
use Rattle.ndef_cli_make.specs.declared.fault.Fault.{Fault}
use Rattle.ndef_cli_make.specs.declared.handover.Handover.{Handover}
use Rattle.ndef_cli_make.specs.declared.usage_error.UsageError.TheVariants as usage_error

-- ---- one record

-- the property of a record, and the word that gives it
abbrev pub Content : Type 0
Content = Property × Text

-- RTD Smart Poster 1.0, icon record: a record of a media type
abbrev pub icon_said : Text → (payload : List ℕ) → Option Item
icon_said word payload =
    option_map (λ kind. record { tnf = Media; kind = kind; id = []; payload = payload })
    (joined_at is_slash word)

-- RTD Smart Poster 1.0 and Connection Handover 1.2: the record of a property; the payload is that of
-- an icon
abbrev pub MakesContent : (payload : List ℕ) → Content → Answer → Type 0
MakesContent payload (property.Uri, word) answer = MakesUri word answer
MakesContent payload (property.Title, word) answer =
    MakesSaid usage_error.Title MakesText (title_said word) answer
MakesContent payload (property.Action, word) answer =
    MakesSaid usage_error.Action MakesItem (action_said word) answer
MakesContent payload (property.Size, word) answer =
    MakesSaid usage_error.Size MakesItem (size_said word) answer
MakesContent payload (property.Media, word) answer = MakesItem (typed_record (codes "t") word) answer
MakesContent payload (property.Icon, word) answer =
    MakesSaid usage_error.IconType MakesItem (icon_said word payload) answer
MakesContent payload (property.Collision, word) answer =
    MakesSaid usage_error.Collision MakesItem (collision_said word) answer
MakesContent payload (property.Carrier, word) answer =
    MakesSaid usage_error.Carrier MakesAlternative (ac_said word) answer
MakesContent payload (property.Error, word) answer = AsksError word answer

-- the words of an option, each as that property
abbrev pub words_as : Property → Text → List Row → List Content
words_as property id rows = map (λ word. (property, word)) (option_words id rows)

-- the words of these options, one option after another
abbrev pub contents_by : List (Property × Text) → List Row → List Content
contents_by options rows = flat_map (λ option. words_as option.0 option.1 rows) options

-- the record of a message of these records, or why there is none
abbrev pub MakesOf : (payload : List ℕ) → (List Item → Answer → Type 0) → List Content → Answer → Type 0
MakesOf payload makes contents (Ok i) =
    (items : List Item) × AreMadeBy (MakesContent payload) contents items × makes items (Ok i)
MakesOf payload makes contents (Err fault) = FailsBy (MakesContent payload) contents fault
    ⊎ ((items : List Item) × AreMadeBy (MakesContent payload) contents items
    × makes items (Err fault))

-- ---- posters

-- RTD Smart Poster 1.0: the contents of a poster from a part: its URI, its titles as they are given, its
-- action, its size, its media type and its icon
abbrev pub poster_contents : List Row → List Content
poster_contents rows = contents_by ((property.Uri, codes "uri") ∷ (property.Title, codes "title")
    ∷ (property.Action, codes "action") ∷ (property.Size, codes "size") ∷ (property.Media, codes "media")
    ∷ (property.Icon, codes "icon-type") ∷ []) rows

-- RTD Smart Poster 1.0, icon record: both an icon and its type are given, or neither
abbrev pub go_together : (icon kind : Bool) → Bool
go_together icon kind = if icon then kind else not kind

-- RTD Smart Poster 1.0: the contents of a poster from a part, if its icon goes with its type
abbrev pub poster_said : List Row → Option (List Content)
poster_said rows = if go_together (is_said (codes "icon") rows) (is_said (codes "icon-type") rows)
    then Some (poster_contents rows) else None

-- RTD Smart Poster 1.0: the record of the poster of a part, whose icon has this payload
abbrev pub MakesPosterRecord : List Row → (payload : List ℕ) → Answer → Type 0
MakesPosterRecord rows payload answer =
    MakesSaid usage_error.Icon (MakesOf payload MakesNested) (poster_said rows) answer

-- ---- handovers

-- Connection Handover 1.2: the contents of a handover from a part: its collision resolution, its carriers
-- as they are given, and its error
abbrev pub handover_contents : List Row → List Content
handover_contents rows = contents_by ((property.Collision, codes "collision")
    ∷ (property.Carrier, codes "carrier") ∷ (property.Error, codes "error") ∷ []) rows

-- Connection Handover 1.2: the record of the handover of a part
abbrev pub MakesHandover : List Row → Handover → Answer → Type 0
MakesHandover rows handover answer =
    MakesOf [] (MakesHandoverOf handover) (handover_contents rows) answer

-- Connection Handover 1.2: the record of the handover of a part
abbrev pub MakesHandoverSaid : List Row → Answer → Type 0
MakesHandoverSaid rows answer =
    MakesSaid usage_error.Handover (MakesHandover rows) (handover_said rows) answer

-- ---- step by step

-- an option, and the property that its words say
abbrev pub option_of : PropertyOption → Property × Text
option_of wanted = (wanted.property, wanted.id.now)

-- the records of the contents are appended, or why not
abbrev pub OnMade : (payload : List ℕ) → List Content → (before after : List Item)
    → Result Unit Fault → Type 0
OnMade payload contents before after (Ok done) =
    (items : List Item) × AreMadeBy (MakesContent payload) contents items
    × (after ≡ before ++ items)
OnMade payload contents before after (Err fault) = FailsBy (MakesContent payload) contents fault
