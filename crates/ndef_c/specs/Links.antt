-- The results for the links of a message.
use Rattle.std.specs.Prelude.{◌≡◌, ◌≢◌, ℕ, ◌+◌, ◌^◌, ◌<◌, ◌≤◌, List, [], length, map, take, drop, slice_get, Option, Some, None, Ok}
use Rattle.ndef_format.specs.Messages.{Item, run_record}
use Rattle.ndef_format.specs.Limits.{LimitValues}
use Rattle.ndef_format.specs.Records.{Run}
use Rattle.ndef_format.specs.declared.profile.Profile.TheVariants.{Standard}
use Rattle.ndef_format.specs.Handovers.{IsAlternative}
use Rattle.ndef_format.specs.Payloads.{Sets}
use Rattle.ndef_format.specs.Reasons.{Conditions}
use Rattle.ndef_message.specs.Views.{Viewed, Views}
use Rattle.ndef_types.specs.Links.{IsHandoverRecord as IsHandoverRecord, IsIndexOf, LinksOf, alternatives}
use Rattle.ndef_types.specs.Values.{AcValue, StandsForAc}
use Rattle.ndef_types.specs.declared.link.Link.{Link}
use Rattle.ndef_c.specs.Arrays.{EachAt, GivesMany}
use Rattle.ndef_c.specs.Handovers.{IsHandoverPayload, HasMessage}
use Rattle.ndef_c.specs.Nested.{LiesAfter, TellsNumber}
use Rattle.ndef_c.specs.Walks.{BeginsWithRun, AreWalked, LieBetween, Lies}
use Rattle.ndef_c.specs.declared.link.NdefLink.{NdefLink}
use Rattle.ndef_c.specs.declared.message.Place.{Place}

-- ---- the records of a message

-- NDEF 1.0, messages: the bytes begin with these runs, one after another, and the last of them
-- alone ends the message
pub record BeginsWithRuns (runs : List Run) (bytes : List ℕ) : Type 0 where
  pub some : runs ≢ []
  pub end : ℕ
  pub walked : AreWalked bytes 0 runs end

-- NDEF 1.0, messages: the bytes begin with the records of a message, all of them whole
abbrev pub HasRuns : List ℕ → Type 0
HasRuns bytes = (runs : List Run) × BeginsWithRuns runs bytes

-- the run with the index begins at the place, after those before it
pub record IsPlaceOf (bytes : List ℕ) (runs : List Run) (p : Place) : Type 0 where
  pub run : Run
  pub is : slice_get runs p.index ≡ Some run
  pub before : LieBetween bytes 0 (take p.index runs) p.at
  pub rest : List ℕ
  pub begins : BeginsWithRun run rest (drop p.at bytes)

-- Connection Handover 1.2, carrier data reference: the place of the first record with the id; no
-- record has the empty id
abbrev pub FindsRecord : List ℕ → List Run → List ℕ → Option Place → Type 0
FindsRecord bytes runs id None = IsIndexOf (map run_record runs) id None
FindsRecord bytes runs id (Some p) =
    IsIndexOf (map run_record runs) id (Some p.index) × IsPlaceOf bytes runs p

-- ---- links

-- 1, the index and the place of a record, or 0s for none
abbrev pub TellsPlace : Option Place → (has index at : ℕ) → Type 0
TellsPlace None has index at = (has ≡ 0) × (index ≡ 0) × (at ≡ 0)
TellsPlace (Some p) has index at = (has ≡ 1) × (index ≡ p.index) × (at ≡ p.at)

-- Connection Handover 1.2, carrier data reference: the record of the message to which it refers, if
-- there is one
abbrev pub TellsRecord : List ℕ → List Run → List ℕ → NdefLink → Type 0
TellsRecord bytes runs reference out =
    (p : Option Place) × FindsRecord bytes runs reference p
    × TellsPlace p out.has_record out.record_index out.record_at

-- the bytes begin with a message, and the payload is that of a handover
pub record MayHaveLinks (bytes payload : List ℕ) : Type 0 where
  pub handover : IsHandoverPayload payload
  pub short : length payload < 2 ^ 32
  pub message : HasRuns bytes

-- Connection Handover 1.2, Alternative Carrier record: the one with the index lies there in the
-- payload, and refers to that record
pub record IsLinkAt (bytes payload : List ℕ) (index : ℕ) (out : NdefLink) : Type 0 where
  pub handover : IsHandoverPayload payload
  pub short : length payload < 2 ^ 32
  pub runs : List Run
  pub message : BeginsWithRuns runs bytes
  pub items : List Item
  pub records : HasMessage Standard items payload
  pub carrier : Item
  pub is_carrier : slice_get (alternatives items) index ≡ Some carrier
  pub in_set : IsAlternative carrier.payload
  pub lies : Lies payload out.carrier_at out.carrier_length carrier.payload
  pub at : ℕ
  pub place : LiesAfter (λ before. length (alternatives before) ≡ index) (drop 1 payload) carrier at
  pub after_version : out.carrier_at ≡ at + 1
  pub alternative : AcValue
  pub stands : StandsForAc carrier.payload alternative
  pub refers : TellsRecord bytes runs alternative.reference out

-- Connection Handover 1.2, Alternative Carrier record: the handover has none with the index
pub record HasNoLink (bytes payload : List ℕ) (index : ℕ) : Type 0 where
  pub handover : IsHandoverPayload payload
  pub short : length payload < 2 ^ 32
  pub message : HasRuns bytes
  pub items : List Item
  pub records : HasMessage Standard items payload
  pub beyond : length (alternatives items) ≤ index

-- Connection Handover 1.2, Alternative Carrier record: each link is given, in the order of the
-- alternative carriers
pub record GivesLinks (bytes payload : List ℕ) (before after : List NdefLink) (count status : ℕ) : Type 0 where
  pub may : MayHaveLinks bytes payload
  pub items : List Item
  pub records : HasMessage Standard items payload
  pub gives : GivesMany (EachAt (IsLinkAt bytes payload) 0) (length (alternatives items)) before after count status

-- ---- law

-- what is given is this link: its alternative carrier lies there, and its record has that index
pub record IsLink (payload : List ℕ) (link : Link) (out : NdefLink) : Type 0 where
  pub carrier : List ℕ
  pub lies : Lies payload out.carrier_at out.carrier_length carrier
  pub stands : StandsForAc carrier link.ac
  pub index : TellsNumber link.index out.has_record out.record_index

-- the links that are given are these
pub record AreLinksReported (bytes payload : List ℕ) (links : List Link) : Type 0 where
  pub may : MayHaveLinks bytes payload
  pub each : (index : ℕ) (out : NdefLink) → IsLinkAt bytes payload index out → (link : Link)
      × (slice_get links index ≡ Some link) × IsLink payload link out
  pub end : (index : ℕ) → HasNoLink bytes payload index → length links ≤ index

-- For a message that a check accepts and its handover exactly its links are given.
abbrev pub LinksAreExact : Sets → Conditions → Type 0
LinksAreExact set holds =
    (limits : LimitValues) (bytes : List ℕ) (v : Viewed) (handover : Item) (links : List Link)
    → Views set holds limits bytes (Ok v)
    → IsHandoverRecord handover → length handover.payload < 2 ^ 32
    → LinksOf limits.profile (map run_record v.runs) (Some handover) (Ok links)
    → AreLinksReported bytes handover.payload links
