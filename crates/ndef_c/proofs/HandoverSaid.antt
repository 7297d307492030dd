-- Handover requests and selects that are written, and the series of their records.
use Rattle.std.proofs.Common.{◌≡◌, ℕ, ◌+◌, ◌<◌, ◌≤◌, List, [], ◌∷◌, ◌++◌, length, refl, sym, ◌∙◌, ap, subst, arith, append-nil, Bor}
use Rattle.std.specs.Int.{w16, to_be_bytes}
use Rattle.std.proofs.lemmas.List.{length-map}
use Rattle.std.proofs.lemmas.List.Elements.{All-from_recursion}
use Rattle.ndef_format.specs.Canonical.{canonical}
use Rattle.ndef_format.specs.Messages.{Item}
use Rattle.ndef_format.specs.declared.kind.Kind.TheVariants as kinds
use Rattle.ndef_types.specs.Handovers.{canonical_or_none}
use Rattle.ndef_c.specs.Appending.{well_known}
use Rattle.ndef_c.specs.HandoverMaking.{CarriersAsked, GivesRequest, GivesSelect, MayBeCarriers, MayBeErrorSaid, MayBeRequest, MayBeSelect, SelectAsked, carrier_items, carriers_asked, error_items, message_of, request_items, select_items}
use Rattle.ndef_c.specs.HandoverParts.{alternative_item}
use Rattle.ndef_c.specs.PendingRecord.{IsMade, made_item}
use Rattle.ndef_c.specs.Buffers.{Gives}
use Rattle.ndef_c.specs.RecordList.{AreSeries, IsSeries, MayBeMessage, all_items, series_items}
use Rattle.ndef_c.specs.declared.handover_parts.NdefAlternativeWriting.{NdefAlternativeWriting}
use Rattle.ndef_c.specs.declared.making.PendingRecord.{PendingRecord}
use Rattle.ndef_c.specs.declared.part.NdefPart.{NdefPart}
use Rattle.ndef_c.specs.declared.record_list.RecordList.{RecordList}
use Rattle.ndef_c.specs.declared.record_list.RecordList.TheVariants as several

-- ---- alternative carriers

-- the series of their records
pub record AreCarriers (c : CarriersAsked) (s : RecordList) : Type 0 where
  pub are : series_items s ≡ carrier_items c
  pub each : IsSeries s → MayBeCarriers c
  pub is : MayBeCarriers c → IsSeries s

pub are_carriers : (bytes : Bor (List ℕ)) (references : Bor (List NdefPart)) (alternatives : Bor (List NdefAlternativeWriting))
    → AreCarriers (carriers_asked bytes.now references.now alternatives.now) (several.Alternatives bytes references alternatives)
are_carriers bytes references alternatives =
    let n = length-map alternatives.now (alternative_item bytes.now references.now) in
    record { are = refl; each = λ h j d l. h j (omega (arith, n, l)) d; is = λ h j l a. h j a (omega (arith, n, l)) }

-- ---- requests

abbrev pub request_series : PendingRecord → RecordList → List RecordList
request_series made s = several.One made ∷ s ∷ []

-- the record of the collision resolution
abbrev pub IsCollisionMade : ℕ → PendingRecord → Type 0
IsCollisionMade number made = made_item made ≡ well_known kinds.Collision [] (to_be_bytes w16 number)

request_joined : (number : ℕ) (made : PendingRecord) {c : CarriersAsked} {s : RecordList} → IsCollisionMade number made → AreCarriers c s → all_items (request_series made s) ≡ request_items number c
request_joined number made {c} {s} e p = λ j. e j ∷ (append-nil (series_items s) ∙ p.are) j

pub to_request : {minor : ℕ} (number : ℕ) (made : PendingRecord) {c : CarriersAsked} {s : RecordList} → minor < 16 → number < 65536 → IsCollisionMade number made → AreCarriers c s
    → MayBeMessage ((16 + minor) ∷ []) (request_series made s) → MayBeRequest minor number c
to_request {minor} number made {c} {s} four two e p m =
    let same = ap (λ t. length (canonical t)) (request_joined number made e p) in
    let fits = m.fits in
    record {
      four_bits = four;
      two_octets = two;
      carriers = p.each (m.each 1 several.Nothing (omega arith));
      few = subst (λ t. length t ≤ 65535) (request_joined number made e p) m.few;
      fits = omega (arith, same, fits);
    }

pub from_request : {minor : ℕ} (number : ℕ) (made : PendingRecord) {c : CarriersAsked} {s : RecordList} → IsMade made → IsCollisionMade number made → AreCarriers c s → MayBeRequest minor number c
    → MayBeMessage ((16 + minor) ∷ []) (request_series made s)
from_request {minor} number made {c} {s} h e p m =
    let same = ap (λ t. length (canonical t)) (request_joined number made e p) in
    let fits = m.fits in
    record {
      each = All-from_recursion IsSeries (request_series made s) ((λ k l. h), (p.is m.carriers, tt));
      few = subst (λ t. length t ≤ 65535) (sym (request_joined number made e p)) m.few;
      fits = omega (arith, same, fits);
    }

-- what is given of these records is what is written for the request
pub gives_request : {minor : ℕ} (number : ℕ) (made : PendingRecord) {c : CarriersAsked} {s : RecordList} → IsCollisionMade number made → AreCarriers c s → MayBeRequest minor number c → (before after : List ℕ) (count status : ℕ)
    → Gives ((16 + minor) ∷ canonical (all_items (request_series made s))) before after count status → GivesRequest minor number c before after count status
gives_request {minor} number made {c} {s} e p may before after count status g = record {
  may = may;
  gives = record {
    payload = (16 + minor) ∷ canonical (request_items number c);
    is = refl;
    short = (let fits = may.fits in omega (arith, fits));
    gives = subst (λ t. Gives ((16 + minor) ∷ canonical t) before after count status) (request_joined number made e p) g;
  };
}

-- ---- selects

abbrev pub select_series : (carriers error : RecordList) → List RecordList
select_series carriers error = carriers ∷ error ∷ []

-- the series of the record of its error
abbrev pub IsErrorSeries : SelectAsked → RecordList → Type 0
IsErrorSeries s error = AreSeries (error_items s.how s.carriers.bytes) error

select_joined : (s : SelectAsked) {carriers error : RecordList} → AreCarriers s.carriers carriers → IsErrorSeries s error → all_items (select_series carriers error) ≡ select_items s
select_joined s {carriers} {error} p x = λ j. p.are j ++ (append-nil (series_items error) ∙ x.are) j

pub to_select : (s : SelectAsked) {carriers error : RecordList} → s.how.minor < 16 → MayBeErrorSaid s.how s.carriers.bytes → AreCarriers s.carriers carriers → IsErrorSeries s error
    → MayBeMessage ((16 + s.how.minor) ∷ []) (select_series carriers error) → MayBeSelect s
to_select s {carriers} {error} four said p x m =
    let same = ap (λ t. length (canonical t)) (select_joined s p x) in
    let fits = m.fits in
    record {
      four_bits = four;
      carriers = p.each (m.each 0 several.Nothing (omega arith));
      error = said;
      few = subst (λ t. length t ≤ 65535) (select_joined s p x) m.few;
      fits = omega (arith, same, fits);
    }

pub from_select : (s : SelectAsked) {carriers error : RecordList} → AreCarriers s.carriers carriers → IsErrorSeries s error → MayBeSelect s
    → MayBeMessage ((16 + s.how.minor) ∷ []) (select_series carriers error)
from_select s {carriers} {error} p x m =
    let same = ap (λ t. length (canonical t)) (select_joined s p x) in
    let fits = m.fits in
    record {
      each = All-from_recursion IsSeries (select_series carriers error) (p.is m.carriers, (x.may, tt));
      few = subst (λ t. length t ≤ 65535) (sym (select_joined s p x)) m.few;
      fits = omega (arith, same, fits);
    }

message_written : (items : List Item) → canonical items ≡ canonical_or_none (message_of items)
message_written [] = refl
message_written (i ∷ items) = refl

-- what is given of these records is what is written for the select
pub gives_select : (s : SelectAsked) {carriers error : RecordList} → AreCarriers s.carriers carriers → IsErrorSeries s error → MayBeSelect s → (before after : List ℕ) (count status : ℕ)
    → Gives ((16 + s.how.minor) ∷ canonical (all_items (select_series carriers error))) before after count status → GivesSelect s before after count status
gives_select s {carriers} {error} p x may before after count status g = record {
  may = may;
  gives = record {
    payload = (16 + s.how.minor) ∷ canonical (select_items s);
    is = ap (λ t. (16 + s.how.minor) ∷ t) (message_written (select_items s));
    short = (let fits = may.fits in omega (arith, fits));
    gives = subst (λ t. Gives ((16 + s.how.minor) ∷ canonical t) before after count status) (select_joined s p x) g;
  };
}
