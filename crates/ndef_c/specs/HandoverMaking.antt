-- The handover requests and selects that may be written from their parts, and their octets.
use Rattle.std.specs.Prelude.{◌≡◌, ℕ, ◌+◌, ◌<◌, ◌≤◌, ◌^◌, ◌==◌, ◌⊎◌, List, [], ◌∷◌, ◌++◌, length, map, Option, Some, None, if◌then◌else◌}
use Rattle.std.specs.Int.{w16, to_be_bytes}
use Rattle.std.specs.List.{All}
use Rattle.ndef_format.specs.Canonical.{canonical}
use Rattle.ndef_format.specs.Messages.{Item}
use Rattle.ndef_format.specs.Records.{AreOctets}
use Rattle.ndef_format.specs.declared.kind.Kind.TheVariants as kinds
use Rattle.ndef_types.specs.Handovers.{IsRequestValue, IsSelectValue, RequestValue, SelectValue, WritesRequest, WritesSelect}
use Rattle.ndef_c.specs.AlternativeWrites.{IsPartWithin, part_of}
use Rattle.ndef_c.specs.Appending.{well_known}
use Rattle.ndef_c.specs.ErrorWrites.{MayBeError}
use Rattle.ndef_c.specs.HandoverParts.{MayBeCarried, alternative_item}
use Rattle.ndef_c.specs.Payloads.{GivesFor}
use Rattle.ndef_c.specs.declared.handover_making.NdefSelectWriting.{NdefSelectWriting}
use Rattle.ndef_c.specs.declared.handover_parts.NdefAlternativeWriting.{NdefAlternativeWriting}
use Rattle.ndef_c.specs.declared.part.NdefPart.{NdefPart}

-- Connection Handover 1.2: the alternative carriers of a handover, whose references are parts of
-- some bytes
pub record CarriersAsked : Type 0 where
  pub bytes : List ℕ
  pub references : List NdefPart
  pub alternatives : List NdefAlternativeWriting

abbrev pub carriers_asked : List ℕ → List NdefPart → List NdefAlternativeWriting → CarriersAsked
carriers_asked bytes references alternatives =
    record { bytes = bytes; references = references; alternatives = alternatives }

-- Connection Handover 1.2, Alternative Carrier records: each of them may be written
abbrev pub MayBeCarriers : CarriersAsked → Type 0
MayBeCarriers c = All (MayBeCarried c.bytes c.references) c.alternatives

-- Connection Handover 1.2, Alternative Carrier records: a record for each
abbrev pub carrier_items : CarriersAsked → List Item
carrier_items c = map (alternative_item c.bytes c.references) c.alternatives

-- ---- requests

-- Connection Handover 1.2, Handover Request record: the collision resolution, and the alternative
-- carriers
abbrev pub request_items : (collision : ℕ) → CarriersAsked → List Item
request_items collision c =
    well_known kinds.Collision [] (to_be_bytes w16 collision) ∷ carrier_items c

-- Connection Handover 1.2, Handover Request record: a minor version of four bits and a number of
-- two octets, no more records than a message has, and no more octets than a payload
pub record MayBeRequest (minor collision : ℕ) (c : CarriersAsked) : Type 0 where
  pub four_bits : minor < 16
  pub two_octets : collision < 65536
  pub carriers : MayBeCarriers c
  pub few : length (request_items collision c) ≤ 65535
  pub fits : 1 + length (canonical (request_items collision c)) < 2 ^ 32

-- Connection Handover 1.2, Handover Request record: the request of these records
abbrev pub request_of : (minor collision : ℕ) → CarriersAsked → RequestValue
request_of minor collision c = record { minor = minor; items = request_items collision c }

-- the octets that are written for that request are given
pub record GivesRequest (minor collision : ℕ) (c : CarriersAsked) (before after : List ℕ) (count status : ℕ)
    : Type 0 where
  pub may : MayBeRequest minor collision c
  pub gives : GivesFor WritesRequest (request_of minor collision c) before after count status

-- Connection Handover 1.2, Handover Request record: the records of a request that may be written
-- are those of a request for a strict reader
abbrev pub WrittenRequestsAreRead : Type 0
WrittenRequestsAreRead =
    (minor collision : ℕ) (c : CarriersAsked) → MayBeRequest minor collision c → AreOctets c.bytes
    → IsRequestValue (request_of minor collision c)

-- ---- selects

-- Connection Handover 1.2, Error record: a part of the bytes that goes with the reason
pub record IsErrorSaid (how : NdefSelectWriting) (bytes : List ℕ) : Type 0 where
  pub within : IsPartWithin (length bytes) how.detail
  pub may : MayBeError how.reason (part_of bytes how.detail)

-- Connection Handover 1.2, Error record: 1 requests one, and 0 none
abbrev pub MayBeErrorSaid : NdefSelectWriting → List ℕ → Type 0
MayBeErrorSaid how bytes = (how.has_error ≡ 0) ⊎ ((how.has_error ≡ 1) × IsErrorSaid how bytes)

-- Connection Handover 1.2, Error record: the record of the reason and its data, if 1 requests it
abbrev pub error_items : NdefSelectWriting → List ℕ → List Item
error_items how bytes =
    if how.has_error == 1 then well_known kinds.Error [] (how.reason ∷ part_of bytes how.detail) ∷ [] else []

-- Connection Handover 1.2: the parts of a select
pub record SelectAsked : Type 0 where
  pub how : NdefSelectWriting
  pub carriers : CarriersAsked

abbrev pub select_asked : NdefSelectWriting → CarriersAsked → SelectAsked
select_asked how carriers = record { how = how; carriers = carriers }

-- Connection Handover 1.2, Handover Select record: the alternative carriers, and the error
abbrev pub select_items : SelectAsked → List Item
select_items s = carrier_items s.carriers ++ error_items s.how s.carriers.bytes

-- Connection Handover 1.2, Handover Select record: a minor version of four bits, no more records
-- than a message has, and no more octets than a payload
pub record MayBeSelect (s : SelectAsked) : Type 0 where
  pub four_bits : s.how.minor < 16
  pub carriers : MayBeCarriers s.carriers
  pub error : MayBeErrorSaid s.how s.carriers.bytes
  pub few : length (select_items s) ≤ 65535
  pub fits : 1 + length (canonical (select_items s)) < 2 ^ 32

-- NDEF 1.0, messages: without a record there is no message
abbrev pub message_of : List Item → Option (List Item)
message_of [] = None
message_of (i ∷ items) = Some (i ∷ items)

-- Connection Handover 1.2, Handover Select record: the select of these records
abbrev pub select_of : SelectAsked → SelectValue
select_of s = record { minor = s.how.minor; message = message_of (select_items s) }

-- the octets that are written for that select are given
pub record GivesSelect (s : SelectAsked) (before after : List ℕ) (count status : ℕ) : Type 0 where
  pub may : MayBeSelect s
  pub gives : GivesFor WritesSelect (select_of s) before after count status

-- Connection Handover 1.2, Handover Select record: the records of a select that may be written are
-- those of a select for a strict reader
abbrev pub WrittenSelectsAreRead : Type 0
WrittenSelectsAreRead =
    (s : SelectAsked) → MayBeSelect s → AreOctets s.carriers.bytes → IsSelectValue (select_of s)
