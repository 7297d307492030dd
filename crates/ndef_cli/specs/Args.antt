-- The words of a command line. On Linux they are bytes; clap takes texts.
use Rattle.std.specs.Prelude.{◌≡◌, ◌++◌, ◌∷◌, ◌⊎◌, ℕ, List, Option, Some, None, codes, IsUtf8}
use Rattle.std.specs.List.{AllByRecursion}
use Rattle.ndef_message.specs.States.{SinkState}
use Rattle.ndef_cli.specs.Outputs.{Prints}
use Rattle.ndef_cli.specs.Quoting.{Text, quoted}
use Rattle.ndef_cli.specs.declared.status.Status.{Status}
use Rattle.ndef_cli.specs.declared.status.Status.TheVariants as status
use Rattle.ndef_cli.specs.declared.args.ArgsFault.{ArgsFault}
use Rattle.ndef_cli.specs.declared.args.ArgsFault.TheVariants as fault

-- the first of the words that isn't UTF-8
abbrev pub IsFirstStrange : (args : List (List ℕ)) → (word : List ℕ) → Type 0
IsFirstStrange args word =
    (done : List (List ℕ)) × (rest : List (List ℕ)) × (args ≡ done ++ word ∷ rest)
    × AllByRecursion IsUtf8 done × (IsUtf8 word → ⊥)

-- that word; none where all are UTF-8
abbrev pub IsStrange : (args : List (List ℕ)) → Option (List ℕ) → Type 0
IsStrange args (Some word) = IsFirstStrange args word
IsStrange args None = AllByRecursion IsUtf8 args

-- why there are no texts of the words: the first that isn't UTF-8; memory runs out only where all
-- are
abbrev pub AreNoTexts : (args : List (List ℕ)) → ArgsFault → Type 0
AreNoTexts args (fault.NotText word) = IsFirstStrange args word.now
AreNoTexts args fault.NoMemory = AllByRecursion IsUtf8 args

-- the line for a word that isn't UTF-8
abbrev pub word_line : List ℕ → Text
word_line word = codes "usage: the word " ++ quoted word ++ codes " is not UTF-8\n"

-- writes the line for a word that isn't UTF-8; writes nothing where memory runs out for it
abbrev pub TellsWord : (word : List ℕ) → (before after : SinkState) → Status → Type 0
TellsWord word before after result =
    Prints (word_line word) status.Usage before after result ⊎ ((after ≡ before) × (result ≡ status.Fault))

-- the output for words that aren't taken as texts, and the status
abbrev pub TellsWords : ArgsFault → (before after : SinkState) → Status → Type 0
TellsWords (fault.NotText word) before after result = TellsWord word.now before after result
TellsWords fault.NoMemory before after result = (after ≡ before) × (result ≡ status.Fault)
