-- Texts and URIs that are appended to a message in a buffer.
use Rattle.std.specs.Prelude.{ℕ, ◌<◌, ◌^◌, List, length}
use Rattle.ndef_format.specs.Kinds.{kind_name}
use Rattle.ndef_format.specs.Messages.{Item}
use Rattle.ndef_format.specs.declared.kind.Kind.{Kind}
use Rattle.ndef_format.specs.declared.kind.Kind.TheVariants as kinds
use Rattle.ndef_format.specs.declared.tnf.Tnf.TheVariants.{WellKnown}
use Rattle.ndef_types.specs.Values.{WritesUri, text_payload}
use Rattle.ndef_c.specs.Built.{GivesWhole, Holding, MayBeGrown}
use Rattle.ndef_c.specs.Texts.{MayBeText, asked_text}

-- NDEF 1.0, record layout: the record of a well-known type
abbrev pub well_known : Kind → (id payload : List ℕ) → Item
well_known kind id payload =
    record { tnf = WellKnown; kind = kind_name kind; id = id; payload = payload }

-- RTD Text 1.0: a text in a language, and 1 for UTF-16
pub record Asked : Type 0 where
  pub flags : ℕ
  pub language : List ℕ
  pub text : List ℕ

abbrev pub asked_of : (flags : ℕ) → (language text : List ℕ) → Asked
asked_of flags language text = record { flags = flags; language = language; text = text }

-- RTD Text 1.0: the record of the text
abbrev pub text_record : List ℕ → Asked → Item
text_record id a = well_known kinds.Text id (text_payload (asked_text a.flags a.language a.text))

-- NDEF 1.0, ID_LENGTH: one more record with the id may follow the message
pub record MayBeJoined (id : List ℕ) (h : Holding) : Type 0 where
  pub short : length id < 256
  pub grown : MayBeGrown h

-- RTD Text 1.0: the record of a text that may be written may be added there
pub record MayBeTextThere (id : List ℕ) (a : Asked) (h : Holding) : Type 0 where
  pub text : MayBeText a.flags a.language a.text
  pub joined : MayBeJoined id h

-- RTD URI 1.0: the record of a URI is written after the message, as WritesUri defines it
pub record GivesUriThere (id uri : List ℕ) (before after : Holding) (count status : ℕ) : Type 0 where
  pub payload : List ℕ
  pub is : WritesUri uri payload
  pub short : length payload < 2 ^ 32
  pub gives : GivesWhole (well_known kinds.Uri id payload) before after count status
