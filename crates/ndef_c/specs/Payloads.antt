-- The answer for the payload of a record, and the octets that are written for a value.
use Rattle.std.specs.Prelude.{◌≡◌, ℕ, ◌+◌, ◌^◌, ◌<◌, List, ◌∷◌, length, slice_index}
use Rattle.ndef_format.specs.Records.{bit}
use Rattle.ndef_format.specs.Reasons.{reason_number}
use Rattle.ndef_format.specs.declared.refusal.Refusal.{Refusal}
use Rattle.ndef_format.specs.declared.profile.Profile.{Profile}
use Rattle.ndef_format.specs.Texts.{IsText, is_wide}
use Rattle.ndef_format.specs.Uris.{IsUri}
use Rattle.ndef_types.specs.Decoding.{Payloads, Reasons, RefusesPayload, Writing}
use Rattle.ndef_types.specs.Values.{StandsForUri, language_octets, encoded_octets}
use Rattle.ndef_c.specs.Buffers.{Gives}
use Rattle.ndef_c.specs.Walks.{Lies}
use Rattle.ndef_c.specs.declared.checking.NdefChecked.{NdefChecked}
use Rattle.ndef_c.specs.declared.text.NdefText.{NdefText}
use Rattle.ndef_c.specs.declared.uri_parts.NdefUri.{NdefUri}

-- the payload isn't in its set: where and why is given
pub record RefusesWith (set : Payloads) (holds : Reasons) (payload : List ℕ) (out : NdefChecked) : Type 0 where
  pub refusal : Refusal
  pub refused : RefusesPayload set holds payload refusal
  pub place : out.place ≡ refusal.at
  pub records : out.records ≡ 0
  pub reason : out.reason ≡ reason_number refusal.reason

-- RTD URI 1.0: the payload is that of a URI, which is given with its prefix
pub record GivesUri (profile : Profile) (payload before after : List ℕ) (count status : ℕ) : Type 0 where
  pub in_set : IsUri profile payload
  pub short : length payload < 2 ^ 32
  pub uri : List ℕ
  pub stands : StandsForUri payload uri
  pub gives : Gives uri before after count status

-- RTD Text 1.0: the payload is that of a text, and where its parts lie, one after another; the byte
-- order mark of a text in UTF-16 belongs to the text
pub record IsTextAt (payload : List ℕ) (out : NdefText) : Type 0 where
  pub in_set : IsText payload
  pub short : length payload < 2 ^ 32
  pub language : Lies payload out.language_at out.language_length (language_octets payload)
  pub text : Lies payload out.text_at out.text_length (encoded_octets payload)
  pub language_place : out.language_at ≡ 1
  pub text_place : out.text_at ≡ out.language_at + out.language_length
  pub utf16 : out.utf16 ≡ bit (is_wide (slice_index payload 0))

-- the octets that are written for the value are given
pub record GivesFor {V : Type 0} (written : Writing V) (value : V) (before after : List ℕ)
    (count status : ℕ) : Type 0 where
  pub payload : List ℕ
  pub is : written value payload
  pub short : length payload < 2 ^ 32
  pub gives : Gives payload before after count status

-- RTD URI 1.0: the payload is that of a URI: its code, whose prefix begins the URI, and where the
-- rest of it lies
pub record IsUriAt (profile : Profile) (payload : List ℕ) (out : NdefUri) : Type 0 where
  pub in_set : IsUri profile payload
  pub short : length payload < 2 ^ 32
  pub rest : List ℕ
  pub following : payload ≡ out.code ∷ rest
  pub place : out.rest_at ≡ 1
  pub count : out.rest_length ≡ length rest
