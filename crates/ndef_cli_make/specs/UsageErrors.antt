-- The output for words that are wrong.
use Rattle.std.specs.Prelude.{◌++◌, ℕ, codes, decimal}
use Rattle.clap.specs.Words.{Text}
use Rattle.ndef_cli_make.specs.declared.usage_error.UsageError.{UsageError}
use Rattle.ndef_cli_make.specs.declared.usage_error.UsageError.TheVariants as usage_error

-- what is wrong, in words; a number comes after those on a record that there isn't
abbrev pub usage_error_words : UsageError → Text
usage_error_words usage_error.Words = codes "words that do not parse"
usage_error_words usage_error.Tag = codes "--tag: ntag213, ntag215, ntag216 or a number of bytes"
usage_error_words usage_error.TwoReaders = codes "standard input is one payload, or the message of --from"
usage_error_words usage_error.TwoPayloads = codes "--payload and --file: a record has one payload"
usage_error_words usage_error.Digits = codes "--payload: an even number of hexadecimal digits"
usage_error_words usage_error.Tnf = codes "--tnf: a number from 0 to 5"
usage_error_words usage_error.MediaType = codes "TYPE: a type, a slash and a subtype, as image/png"
usage_error_words usage_error.ExternalType = codes "TYPE: a domain, a colon and a name, as example.com:a"
usage_error_words usage_error.Package = codes "PACKAGE: the name of a package, as com.example"
usage_error_words usage_error.Format = codes "--format: a number from 0 to 7"
usage_error_words usage_error.Title =
    codes "--title: a language code, an equals sign and a text, as en=Hello"
usage_error_words usage_error.Action = codes "--action: do, save or open"
usage_error_words usage_error.Size = codes "--size: a number from 0 to 4294967295"
usage_error_words usage_error.Icon = codes "--icon and --icon-type: both or neither"
usage_error_words usage_error.IconType = codes "--icon-type: a type, a slash and a subtype, as image/png"
usage_error_words usage_error.Handover =
    codes "a request has a --collision and no --error, a select no --collision; "
    ++ codes "versions are 1.0 to 1.15"
usage_error_words usage_error.Carrier =
    codes "--carrier: as active=a,b or as power=active,ref=a,aux=b; "
    ++ codes "inactive, active, activating or unknown"
usage_error_words usage_error.Control = codes "URI: no character from 0 to 31; --unchecked writes it"
usage_error_words usage_error.NoLanguage = codes "an empty language code; --unchecked writes it"
usage_error_words usage_error.TwoTitles = codes "--title: one for each language; --unchecked writes more"
usage_error_words usage_error.NoCarrier = codes "a request has a --carrier; --unchecked writes it without"
usage_error_words usage_error.Collision = codes "--collision: a number from 0 to 65535"
usage_error_words usage_error.Reason =
    codes "--error: a number from 0 to 255, a colon and hexadecimal digits, as 1:05"
usage_error_words usage_error.From = codes "--from: the name of a file; - is standard input"
usage_error_words usage_error.Edit =
    codes "--drop N, or --replace N and a record: N is the number of a record of --from"
usage_error_words (usage_error.NoSuchRecord n last) = codes "the message of --from has no record "
usage_error_words usage_error.Twice = codes "a record of --from is dropped or replaced once at most"

-- the same with the numbers
abbrev pub usage_error_text : UsageError → Text
usage_error_text (usage_error.NoSuchRecord n last) =
    usage_error_words (usage_error.NoSuchRecord n last) ++ decimal n ++ codes ": its last is " ++ decimal last
usage_error_text m = usage_error_words m

-- the line for words that are wrong
abbrev pub usage_line : UsageError → Text
usage_line m = codes "usage: " ++ usage_error_text m ++ codes "\n"

-- the same of the record or edit of this number, counted from 1
abbrev pub usage_at : (part : Text) → ℕ → UsageError → Text
usage_at part n m =
    codes "usage: " ++ part ++ decimal n ++ codes ": " ++ usage_error_text m ++ codes "\n"
